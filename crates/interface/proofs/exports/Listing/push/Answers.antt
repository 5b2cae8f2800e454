use Rattle.std.proofs.Common.{◌++◌, ◌∷◌, [], List, subst, sym}
use Rattle.std.specs.List.{AllZip}
use Rattle.interface.specs.Listings.{IsExport, NamedExport}
use Rattle.interface.specs.declared.exports.ExportType.{ExportType}
use Rattle.interface.proofs.lemmas.Growing.{one_more}
use Rattle.interface.proofs.exports.Listing.push.Goals as goal

pub returns : goal.returns
returns c all listed =
    let types = c.index_of.new.types.items in
    let item : ExportType = record { name = c.in_ok-name.name; ty = c.in_ok-ty.ty } in
    subst (λ (found : List ExportType). AllZip (IsExport types) found (all ++ (c.args.name.now, c.args.ty) ∷ [])) (sym c.in_ok-push.ensures.items)
    (one_more
    (λ (x : ExportType) (e : NamedExport) (is : IsExport c.args.self.now.found.types.items x e). record { name = is.name; ty = c.in_ok-ty.ensures.kept x.ty e.1 is.ty })
    item (c.args.name.now, c.args.ty) (record { name = c.in_ok-name.ensures.ok; ty = c.in_ok-ty.ensures.there }) c.args.self.now.found.exports.items all listed)
