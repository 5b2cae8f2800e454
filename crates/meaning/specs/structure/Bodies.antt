-- Bodies as trees, and their writing as flat operations (Structure, Instructions).
use Rattle.std.specs.Prelude.{List, [], ◌∷◌, ◌++◌, Option, Some, None}
use Rattle.core_types.specs.declared.op.BlockType.{BlockType}
use Rattle.core_types.specs.declared.op.PlainOp.{PlainOp}
use Rattle.core_types.specs.declared.op.Op.{Op}
use Rattle.core_types.specs.declared.op.Op.TheVariants.{Plain, Block, Loop, If, Else, End}

-- The kind of an instruction with one body: a block, a loop, or an if without else, whose else body is empty.
pub data Kind : Type 0 where
  BlockKind : Kind
  LoopKind : Kind
  IfKind : Kind

-- A sequence of instructions: nothing, or a first instruction and the rest. An instruction has no body, one body, or is an if with two.
pub data Body : Type 0 where
  Empty : Body
  Then : (op : PlainOp) (rest : Body) → Body
  Nested : (kind : Kind) (type : BlockType) (inner rest : Body) → Body
  IfElse : (type : BlockType) (inner other rest : Body) → Body

-- The mark at which an instruction with one body begins.
abbrev pub mark_of : Kind → BlockType → Op
mark_of BlockKind type = Block type
mark_of LoopKind type = Loop type
mark_of IfKind type = If type

-- The instructions in order, each body after a mark and down to an end or an else.
abbrev pub writing : Body → List Op
writing Empty = []
writing (Then op rest) = Plain op ∷ writing rest
writing (Nested kind type inner rest) = mark_of kind type ∷ (writing inner ++ (End ∷ writing rest))
writing (IfElse type inner other rest) =
    If type ∷ (writing inner ++ (Else ∷ (writing other ++ (End ∷ writing rest))))

-- The instructions of one body, followed by those of another.
abbrev pub joined : Body → Body → Body
joined Empty b = b
joined (Then op rest) b = Then op (joined rest b)
joined (Nested kind type inner rest) b = Nested kind type inner (joined rest b)
joined (IfElse type inner other rest) b = IfElse type inner other (joined rest b)

-- The rest of a body at a position in flat operations, and the else body after it if it goes down to an else.
pub record Part : Type 0 where
  pub body : Body
  pub other : Option Body

abbrev pub nothing_left : Part
nothing_left = record { body = Empty; other = None }

-- The rest of the body at a position in flat operations, and of each body around it, from the inside out.
pub record Rests : Type 0 where
  pub here : Part
  pub around : List Part

abbrev pub first_part : List Part → Part
first_part [] = nothing_left
first_part (part ∷ parts) = part

abbrev pub other_parts : List Part → List Part
other_parts [] = []
other_parts (part ∷ parts) = parts

-- An if, whose second body may be missing.
abbrev pub if_with : BlockType → Body → Option Body → Body → Body
if_with type inner None rest = Nested IfKind type inner rest
if_with type inner (Some other) rest = IfElse type inner other rest

-- A position before an instruction with a body, whose inside is here and whose rest is the first of those around it.
abbrev pub enclosed : (Part → Body → Body) → Rests → Rests
enclosed instruction rests = record {
  here = record {
    body = instruction rests.here (first_part rests.around).body;
    other = (first_part rests.around).other;
  };
  around = other_parts rests.around;
}

-- Read from the last operation to the first.
abbrev pub rests : List Op → Rests
rests [] = record { here = nothing_left; around = [] }
rests (Plain op ∷ ops) = record {
  here = record { body = Then op (rests ops).here.body; other = (rests ops).here.other };
  around = (rests ops).around;
}
rests (Block type ∷ ops) =
    enclosed (λ inside rest. Nested BlockKind type inside.body rest) (rests ops)
rests (Loop type ∷ ops) =
    enclosed (λ inside rest. Nested LoopKind type inside.body rest) (rests ops)
rests (If type ∷ ops) =
    enclosed (λ inside rest. if_with type inside.body inside.other rest) (rests ops)
rests (Else ∷ ops) = record {
  here = record { body = Empty; other = Some (rests ops).here.body };
  around = (rests ops).around;
}
rests (End ∷ ops) = record { here = nothing_left; around = (rests ops).here ∷ (rests ops).around }

-- The rest of the body at a position in flat operations: down to its end, its else, or the last operation.
abbrev pub body_of : List Op → Body
body_of ops = (rests ops).here.body
