-- What an embedding may be set up with.
use Rattle.std.specs.Prelude.{◌≤◌}
use Rattle.meaning.specs.embedding.Machine.{Setup}
use Rattle.meaning.specs.validation.Types.{most_pages}

-- The bounds are this project's own.
pub record IsInRange (setup : Setup) : Type 0 where
  pub some_depth : 1 ≤ setup.depth
  pub depth : setup.depth ≤ 65535
  pub pages : setup.pages ≤ most_pages
  pub entries : setup.entries ≤ 10000000
