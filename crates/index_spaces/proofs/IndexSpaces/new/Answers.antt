use Rattle.index_spaces.proofs.lemmas.IndexSpaces.{functions_imported, globals_imported, memories_imported, tables_imported}
use Rattle.index_spaces.proofs.IndexSpaces.new.Goals as goal

pub returns : goal.returns
returns c =
    let imports = c.args.decoded.now.imports in
    record {
      functions = rw (c.as_slice-imports.ensures, c.as_slice.ensures, functions_imported imports) at c.in_ok-functions.ensures;
      tables = rw (c.as_slice-imports.ensures, c.as_slice-2.ensures, tables_imported imports) at c.in_ok-tables.ensures;
      memories = rw (c.as_slice-imports.ensures, c.as_slice-3.ensures, memories_imported imports) at c.in_ok-memories.ensures;
      globals = rw (c.as_slice-imports.ensures, c.as_slice-4.ensures, globals_imported imports) at c.in_ok-globals.ensures;
    }
