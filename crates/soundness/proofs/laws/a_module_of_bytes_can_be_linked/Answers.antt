use Rattle.std.proofs.Common.{◌≡◌, ℕ, ◌^◌, ◌<◌, ◌≤◌, [], ◌∷◌, None, refl, arith}
use Rattle.std.proofs.lemmas.List.Elements.{All-replicate}
use Rattle.std.specs.List.{All}
use Rattle.core_types.specs.declared.module.DataMode.TheVariants.{Passive}
use Rattle.core_types.specs.declared.module.DataSegment.{DataSegment}
use Rattle.core_types.specs.declared.types.Limits.{Limits}
use Rattle.meaning.specs.execution.Storage.{AreBytes}
use Rattle.meaning.specs.validation.Modules.{HasDataMode}
use Rattle.meaning.specs.validation.Types.{AreFewPages, AreOrdered}
use Rattle.soundness.specs.Rows.{storing}
use Rattle.soundness.proofs.laws.a_module_of_bytes_can_be_linked.Goals as goal

none : {X : Type 0} (P : X → Type 0) → All P []
none P k d inside = let wrong : ⊥ = omega (arith, inside) in absurd wrong

only : {X : Type 0} (P : X → Type 0) (x : X) → P x → All P (x ∷ [])
only P x holds = All-replicate P 1 x holds

few : 1 ≤ 2 ^ 16
few = omega (arith)

byte : 255 < 2 ^ 8
byte = omega (arith)

pub returns : goal.returns
returns c = record {
  linkable = record {
    sound = record {
      valid = record {
        function_types = none _;
        bodies = none _;
        table_limits = none _;
        memory_limits = only AreOrdered (record { min = 1; max = None }) tt;
        memory_pages = only AreFewPages (record { min = 1; max = None }) (few, tt);
        one_memory = omega (arith);
        globals = none _;
        elements = none _;
        datas = only (λ (d : DataSegment). HasDataMode (storing (255 ∷ [])) d.mode) (record { bytes = 255 ∷ []; mode = Passive }) tt;
        start = tt;
        exports = none _;
        names_differ = tt;
      };
      few_entries = none _;
      bytes = only (λ (d : DataSegment). AreBytes d.bytes) (record { bytes = 255 ∷ []; mode = Passive }) (only (λ (b : ℕ). b < 2 ^ 8) 255 byte);
    };
    within = record {
      few_entries = none _;
      few_pages = only (λ (l : Limits). l.min ≤ 1) (record { min = 1; max = None }) (omega (arith));
      room = record {
        functions = omega (arith);
        instances = omega (arith);
        tables = omega (arith);
        memories = omega (arith);
        globals = omega (arith);
        elements = omega (arith);
        datas = omega (arith);
      };
    };
    count = refl;
    fits = tt;
  };
  no_byte = λ linkable. let wrong : 256 < 2 ^ 8 = linkable.sound.bytes 0 (record { bytes = 256 ∷ []; mode = Passive }) (omega (arith)) 0 256 (omega (arith)) in omega (arith, wrong);
  too_large = λ linkable. let wrong : 1 ≤ 0 = linkable.within.few_pages 0 (record { min = 1; max = None }) (omega (arith)) in omega (arith, wrong);
  too_many = λ given linkable. let wrong : 1 ≡ 0 = linkable.count in omega (arith, wrong);
}
