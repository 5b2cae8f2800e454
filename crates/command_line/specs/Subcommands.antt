-- What the arguments after the program's name request.
use Rattle.std.specs.Prelude.{◌≡◌, List, [], Option, Some, None, codes, map, unwrap_or}
use Rattle.clap.specs.Words.{Row, Text, all_of, first_of, subcommand_of}
use Rattle.command_line.specs.Commands.{program}
use Rattle.command_line.specs.Numbers.{IsBound, IsFuel}
use Rattle.command_line.specs.declared.words.CallSubcommand.{CallSubcommand}
use Rattle.command_line.specs.declared.words.Subcommand.{Subcommand}
use Rattle.command_line.specs.declared.words.Subcommand.TheVariants.{Script, Call, Check}
use Rattle.command_line.specs.declared.words.ScriptSubcommand.{ScriptSubcommand}

-- The path, the fuel and the depth bound are those of the arguments and options of `script`.
pub record IsScriptSubcommand (matches : List Row) (subcommand : ScriptSubcommand) : Type 0 where
  pub file : first_of (codes "file") matches ≡ Some subcommand.file.now
  pub fuel : IsFuel (first_of (codes "fuel") matches) subcommand.fuel
  pub depth : IsBound (first_of (codes "depth") matches) subcommand.depth

-- The path, the export, its arguments, the fuel and the depth bound are those of `call`.
pub record IsCallSubcommand (matches : List Row) (subcommand : CallSubcommand) : Type 0 where
  pub file : first_of (codes "file") matches ≡ Some subcommand.file.now
  pub export : first_of (codes "export") matches ≡ Some subcommand.export.now
  pub args : unwrap_or (all_of (codes "args") matches) []
      ≡ map (λ word. word.now) subcommand.args.items
  pub fuel : IsFuel (first_of (codes "fuel") matches) subcommand.fuel
  pub depth : IsBound (first_of (codes "depth") matches) subcommand.depth

-- The subcommand is the one of this name, with the values of its matched arguments.
abbrev pub IsSubcommand : Option (Text × List Row) → Subcommand → Type 0
IsSubcommand None subcommand = ⊥
IsSubcommand (Some (name, matches)) (Script subcommand) =
    (name ≡ codes "script") × IsScriptSubcommand matches subcommand
IsSubcommand (Some (name, matches)) (Call subcommand) =
    (name ≡ codes "call") × IsCallSubcommand matches subcommand
IsSubcommand (Some (name, matches)) (Check path) =
    (name ≡ codes "check") × (first_of (codes "file") matches ≡ Some path.now)

-- The subcommand is what the arguments request.
abbrev pub AsksFor : (words : List Text) → Subcommand → Type 0
AsksFor words subcommand = IsSubcommand (subcommand_of program words) subcommand
