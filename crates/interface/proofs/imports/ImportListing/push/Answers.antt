use Rattle.std.proofs.Common.{◌++◌, ◌∷◌, [], ◌∙◌, List, subst, sym}
use Rattle.std.specs.List.{AllZip}
use Rattle.interface.specs.Listings.{IsImport, NamedImport, named_import}
use Rattle.interface.specs.declared.imports.ImportType.{ImportType}
use Rattle.interface.proofs.lemmas.Growing.{one_more}
use Rattle.interface.proofs.imports.ImportListing.push.Goals as goal

pub returns : goal.returns
returns c all listed =
    let types = c.index_of.new.types.items in
    let item : ImportType = record { module_name = c.in_ok-module_name.module_name; name = c.in_ok-name.name; ty = c.in_ok-ty.ty } in
    let added : NamedImport = named_import c.args.import.now c.args.ty in
    subst (λ (found : List ImportType). AllZip (IsImport types) found (all ++ added ∷ [])) (sym c.in_ok-push.ensures.items)
    (one_more
    (λ (x : ImportType) (e : NamedImport) (is : IsImport c.args.self.now.found.types.items x e). record {
      module_name = is.module_name;
      name = is.name;
      ty = c.in_ok-ty.ensures.kept x.ty e.1 is.ty;
    })
    item added (record { module_name = c.in_ok-module_name.ensures.ok ∙ c.as_str.ensures; name = c.in_ok-name.ensures.ok ∙ c.as_str-2.ensures; ty = c.in_ok-ty.ensures.there })
    c.args.self.now.found.imports.items all listed)
