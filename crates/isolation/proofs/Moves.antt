-- Two stores that agree within a region change alike: the results of one write within it.
use Rattle.std.proofs.Common.{ℕ, refl, ◌∙◌}
use Rattle.meaning.specs.execution.Memories.{MemoryInstance}
use Rattle.meaning.specs.execution.Store.{DataInstance, GlobalInstance, Store, with_data, with_elements, with_global, with_memory, with_table}
use Rattle.meaning.specs.execution.Tables.{ElementInstance, TableInstance}
use Rattle.isolation.specs.Regions.{AgreeWithin, AllocatesNothing, ElementIsWithin, GlobalIsWithin, Has, IsClosed, LeavesOutside, Region, TableIsWithin}
use Rattle.isolation.proofs.Within.{set-agrees, set-leads, set-outside}

-- Two stores that agree within a region lead to two others that do. The region is closed then, and in each store what is outside of it is
-- unchanged.
pub record Moves (region : Region) (a b a' b' : Store) : Type 0 where
  pub closed : IsClosed region a'
  pub agree : AgreeWithin region a' b'
  pub first : LeavesOutside region a a'
  pub second : LeavesOutside region b b'
  pub first_new : AllocatesNothing a a'
  pub second_new : AllocatesNothing b b'

pub LeavesOutside-same : (region : Region) (store : Store) → LeavesOutside region store store
LeavesOutside-same region store = record {
  functions = λ address not. refl;
  instances = λ address not. refl;
  tables = λ address not. refl;
  memories = λ address not. refl;
  globals = λ address not. refl;
  elements = λ address not. refl;
  datas = λ address not. refl;
  pages = refl;
  entries = refl;
}

pub AllocatesNothing-same : (store : Store) → AllocatesNothing store store
AllocatesNothing-same store = record { functions = refl; instances = refl }

pub LeavesOutside-through : (region : Region) (a b c : Store) → LeavesOutside region a b → LeavesOutside region b c → LeavesOutside region a c
LeavesOutside-through region a b c first second = record {
  functions = λ address not. second.functions address not ∙ first.functions address not;
  instances = λ address not. second.instances address not ∙ first.instances address not;
  tables = λ address not. second.tables address not ∙ first.tables address not;
  memories = λ address not. second.memories address not ∙ first.memories address not;
  globals = λ address not. second.globals address not ∙ first.globals address not;
  elements = λ address not. second.elements address not ∙ first.elements address not;
  datas = λ address not. second.datas address not ∙ first.datas address not;
  pages = second.pages ∙ first.pages;
  entries = second.entries ∙ first.entries;
}

pub AllocatesNothing-through : (a b c : Store) → AllocatesNothing a b → AllocatesNothing b c → AllocatesNothing a c
AllocatesNothing-through a b c first second = record { functions = second.functions ∙ first.functions; instances = second.instances ∙ first.instances }

module _ (region : Region) (a b : Store) (closed : IsClosed region a) (agree : AgreeWithin region a b) where
  pub Moves-same : Moves region a b a b
  Moves-same = record {
    closed = closed;
    agree = agree;
    first = LeavesOutside-same region a;
    second = LeavesOutside-same region b;
    first_new = AllocatesNothing-same a;
    second_new = AllocatesNothing-same b;
  }

  pub table-moves : (address : ℕ) → Has region.tables address → (new : TableInstance) → TableIsWithin region new → Moves region a b (with_table a address new) (with_table b address new)
  table-moves address has new fits = record {
    closed = record {
      functions = closed.functions;
      instances = closed.instances;
      tables = set-leads region region.tables address has new a.tables (TableIsWithin region) closed.tables fits;
      globals = closed.globals;
      elements = closed.elements;
    };
    agree = record {
      functions = agree.functions;
      instances = agree.instances;
      tables = set-agrees region region.tables address has new a.tables b.tables agree.tables;
      memories = agree.memories;
      globals = agree.globals;
      elements = agree.elements;
      datas = agree.datas;
      pages = agree.pages;
      entries = agree.entries;
    };
    first = record {
      functions = λ other not. refl;
      instances = λ other not. refl;
      tables = set-outside region region.tables address has new a.tables;
      memories = λ other not. refl;
      globals = λ other not. refl;
      elements = λ other not. refl;
      datas = λ other not. refl;
      pages = refl;
      entries = refl;
    };
    second = record {
      functions = λ other not. refl;
      instances = λ other not. refl;
      tables = set-outside region region.tables address has new b.tables;
      memories = λ other not. refl;
      globals = λ other not. refl;
      elements = λ other not. refl;
      datas = λ other not. refl;
      pages = refl;
      entries = refl;
    };
    first_new = record { functions = refl; instances = refl };
    second_new = record { functions = refl; instances = refl };
  }

  pub memory-moves : (address : ℕ) → Has region.memories address → (new : MemoryInstance) → Moves region a b (with_memory a address new) (with_memory b address new)
  memory-moves address has new = record {
    closed = record {
      functions = closed.functions;
      instances = closed.instances;
      tables = closed.tables;
      globals = closed.globals;
      elements = closed.elements;
    };
    agree = record {
      functions = agree.functions;
      instances = agree.instances;
      tables = agree.tables;
      memories = set-agrees region region.memories address has new a.memories b.memories agree.memories;
      globals = agree.globals;
      elements = agree.elements;
      datas = agree.datas;
      pages = agree.pages;
      entries = agree.entries;
    };
    first = record {
      functions = λ other not. refl;
      instances = λ other not. refl;
      tables = λ other not. refl;
      memories = set-outside region region.memories address has new a.memories;
      globals = λ other not. refl;
      elements = λ other not. refl;
      datas = λ other not. refl;
      pages = refl;
      entries = refl;
    };
    second = record {
      functions = λ other not. refl;
      instances = λ other not. refl;
      tables = λ other not. refl;
      memories = set-outside region region.memories address has new b.memories;
      globals = λ other not. refl;
      elements = λ other not. refl;
      datas = λ other not. refl;
      pages = refl;
      entries = refl;
    };
    first_new = record { functions = refl; instances = refl };
    second_new = record { functions = refl; instances = refl };
  }

  pub global-moves : (address : ℕ) → Has region.globals address → (new : GlobalInstance) → GlobalIsWithin region new → Moves region a b (with_global a address new) (with_global b address new)
  global-moves address has new fits = record {
    closed = record {
      functions = closed.functions;
      instances = closed.instances;
      tables = closed.tables;
      globals = set-leads region region.globals address has new a.globals (GlobalIsWithin region) closed.globals fits;
      elements = closed.elements;
    };
    agree = record {
      functions = agree.functions;
      instances = agree.instances;
      tables = agree.tables;
      memories = agree.memories;
      globals = set-agrees region region.globals address has new a.globals b.globals agree.globals;
      elements = agree.elements;
      datas = agree.datas;
      pages = agree.pages;
      entries = agree.entries;
    };
    first = record {
      functions = λ other not. refl;
      instances = λ other not. refl;
      tables = λ other not. refl;
      memories = λ other not. refl;
      globals = set-outside region region.globals address has new a.globals;
      elements = λ other not. refl;
      datas = λ other not. refl;
      pages = refl;
      entries = refl;
    };
    second = record {
      functions = λ other not. refl;
      instances = λ other not. refl;
      tables = λ other not. refl;
      memories = λ other not. refl;
      globals = set-outside region region.globals address has new b.globals;
      elements = λ other not. refl;
      datas = λ other not. refl;
      pages = refl;
      entries = refl;
    };
    first_new = record { functions = refl; instances = refl };
    second_new = record { functions = refl; instances = refl };
  }

  pub elements-moves : (address : ℕ) → Has region.elements address → (new : ElementInstance) → ElementIsWithin region new → Moves region a b (with_elements a address new) (with_elements b address new)
  elements-moves address has new fits = record {
    closed = record {
      functions = closed.functions;
      instances = closed.instances;
      tables = closed.tables;
      globals = closed.globals;
      elements = set-leads region region.elements address has new a.elements (ElementIsWithin region) closed.elements fits;
    };
    agree = record {
      functions = agree.functions;
      instances = agree.instances;
      tables = agree.tables;
      memories = agree.memories;
      globals = agree.globals;
      elements = set-agrees region region.elements address has new a.elements b.elements agree.elements;
      datas = agree.datas;
      pages = agree.pages;
      entries = agree.entries;
    };
    first = record {
      functions = λ other not. refl;
      instances = λ other not. refl;
      tables = λ other not. refl;
      memories = λ other not. refl;
      globals = λ other not. refl;
      elements = set-outside region region.elements address has new a.elements;
      datas = λ other not. refl;
      pages = refl;
      entries = refl;
    };
    second = record {
      functions = λ other not. refl;
      instances = λ other not. refl;
      tables = λ other not. refl;
      memories = λ other not. refl;
      globals = λ other not. refl;
      elements = set-outside region region.elements address has new b.elements;
      datas = λ other not. refl;
      pages = refl;
      entries = refl;
    };
    first_new = record { functions = refl; instances = refl };
    second_new = record { functions = refl; instances = refl };
  }

  pub data-moves : (address : ℕ) → Has region.datas address → (new : DataInstance) → Moves region a b (with_data a address new) (with_data b address new)
  data-moves address has new = record {
    closed = record {
      functions = closed.functions;
      instances = closed.instances;
      tables = closed.tables;
      globals = closed.globals;
      elements = closed.elements;
    };
    agree = record {
      functions = agree.functions;
      instances = agree.instances;
      tables = agree.tables;
      memories = agree.memories;
      globals = agree.globals;
      elements = agree.elements;
      datas = set-agrees region region.datas address has new a.datas b.datas agree.datas;
      pages = agree.pages;
      entries = agree.entries;
    };
    first = record {
      functions = λ other not. refl;
      instances = λ other not. refl;
      tables = λ other not. refl;
      memories = λ other not. refl;
      globals = λ other not. refl;
      elements = λ other not. refl;
      datas = set-outside region region.datas address has new a.datas;
      pages = refl;
      entries = refl;
    };
    second = record {
      functions = λ other not. refl;
      instances = λ other not. refl;
      tables = λ other not. refl;
      memories = λ other not. refl;
      globals = λ other not. refl;
      elements = λ other not. refl;
      datas = set-outside region region.datas address has new b.datas;
      pages = refl;
      entries = refl;
    };
    first_new = record { functions = refl; instances = refl };
    second_new = record { functions = refl; instances = refl };
  }
