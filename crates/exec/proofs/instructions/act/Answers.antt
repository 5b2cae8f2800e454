use Rattle.exec.proofs.instructions.act.Goals as goal

pub returns-in-MemoryGrow : goal.returns-in-MemoryGrow
returns-in-MemoryGrow c = rw c.in-MemoryGrow.is c.memory_grow.ensures

pub returns-in-MemoryFill : goal.returns-in-MemoryFill
returns-in-MemoryFill c = rw c.in-MemoryFill.is c.memory_fill.ensures

pub returns-in-MemoryCopy : goal.returns-in-MemoryCopy
returns-in-MemoryCopy c = rw c.in-MemoryCopy.is c.memory_copy.ensures

pub returns-in-MemoryInit : goal.returns-in-MemoryInit
returns-in-MemoryInit c = rw c.in-MemoryInit.is c.memory_init.ensures

pub returns-in-DataDrop : goal.returns-in-DataDrop
returns-in-DataDrop c = rw c.in-DataDrop.is c.data_drop.ensures

pub returns-in-TableGet : goal.returns-in-TableGet
returns-in-TableGet c = rw c.in-TableGet.is c.table_get.ensures

pub returns-in-TableSet : goal.returns-in-TableSet
returns-in-TableSet c = rw c.in-TableSet.is c.table_set.ensures

pub returns-in-TableSize : goal.returns-in-TableSize
returns-in-TableSize c = rw c.in-TableSize.is c.table_size.ensures

pub returns-in-TableGrow : goal.returns-in-TableGrow
returns-in-TableGrow c = rw c.in-TableGrow.is c.table_grow.ensures

pub returns-in-TableFill : goal.returns-in-TableFill
returns-in-TableFill c = rw c.in-TableFill.is c.table_fill.ensures

pub returns-in-TableCopy : goal.returns-in-TableCopy
returns-in-TableCopy c = rw (c.in-TableCopy.is, ← c.pair_of-pair.ensures) c.table_copy.ensures

pub returns-in-TableInit : goal.returns-in-TableInit
returns-in-TableInit c = rw (c.in-TableInit.is, ← c.pair_of-pair.ensures) c.table_init.ensures

pub returns-in-ElemDrop : goal.returns-in-ElemDrop
returns-in-ElemDrop c = rw c.in-ElemDrop.is c.elem_drop.ensures
