-- The laws for the engine's host functions: objects in boxes, each of a kind that has its own relation.
use Rattle.std.specs.Prelude.{◌≡◌, ℕ, List}
use Rattle.std.specs.List.{All}
use Rattle.core_types.specs.declared.outcome.Val.{Val}
use Rattle.meaning.specs.embedding.Commands.{Command, Reply}
use Rattle.meaning.specs.embedding.Machine.{AppliesAll, Embedding}
use Rattle.meaning.specs.execution.Configurations.{Frame}
use Rattle.meaning.specs.execution.Runs.{Answer}
use Rattle.hostfunc.specs.Boxes.{HostAnswers, HostStep, KeepsItsType, type_of_host}
use Rattle.hostfunc.specs.declared.host_function.HostFn.{Ghosts}
use Rattle.hostfunc.specs.declared.host_object.HostObject.{HostObject}
use Rattle.isolation.specs.Apart.{LinksAreApart, OnlyRegisteredOnesAreShared, StrangersAreApart, StrangersChangeNoAnswers}
use Rattle.isolation.specs.Commands.{CommandsKeepToTheirReach, OthersChangeNoAnswers, OutOfReachChangesNoAnswers}
use Rattle.isolation.specs.Determinism.{AreSameReplies, HadMemory}
use Rattle.isolation.specs.Fuel.{CallsNeedNoDeeper, CallsNeedNoMore, CommandListsEndEarly, CommandListsNeedNoDeeper, CommandListsNeedNoMore, RunsEndEarly}
use Rattle.isolation.specs.Regions.{Marks, marked}
use Rattle.isolation.specs.Isolation.{LinksCannotTell, LinksKeepTo, LinksWithoutStart, RunsCannotTell, RunsKeepTo}

module _ {I : Type 0} {F : I → Type 0} (members : (i : I) → Ghosts (F i)) where
  -- The answer and the effects of an object of this kind are a function of it, its arguments and the bytes that it borrows.
  abbrev pub KindIsFunction : I → Type 0
  KindIsFunction i = (object : F i) (arguments : List Val) (bytes : List ℕ) (a b : Answer)
      (bytes_a bytes_b : List ℕ) (object_a object_b : F i)
      → (members i).Answers object arguments bytes a bytes_a object_a
      → (members i).Answers object arguments bytes b bytes_b object_b
      → (a ≡ b) × (bytes_a ≡ bytes_b) × (object_a ≡ object_b)

  -- A call leaves an object of this kind as it is, so it keeps nothing of one call for another.
  abbrev pub KindKeepsNothing : I → Type 0
  KindKeepsNothing i = (object object' : F i) (arguments : List Val) (bytes bytes' : List ℕ)
      (answer : Answer)
      → (members i).Answers object arguments bytes answer bytes' object' → object' ≡ object

  -- The object declares the type that it was defined with, and its kind is a function, or keeps nothing.
  abbrev pub IsFunction : HostObject I F → Type 0
  IsFunction h = KeepsItsType members h × KindIsFunction h.object.vtable

  abbrev pub KeepsNothing : HostObject I F → Type 0
  KeepsNothing h = KeepsItsType members h × KindKeepsNothing h.object.vtable

  -- Two runs of the same commands from one embedding, whose host functions are functions, have the same replies and end the same,
  -- if memory does not run out.
  abbrev pub RepliesOfTheEngine : Type 0
  RepliesOfTheEngine = (old a b : Embedding (HostObject I F)) (commands : List Command)
      (replies_a replies_b : List Reply)
      → All IsFunction old.state.hosts
      → AppliesAll (HostStep members) old commands replies_a a
      → AppliesAll (HostStep members) old commands replies_b b
      → All HadMemory replies_a → All HadMemory replies_b
      → AreSameReplies commands replies_a replies_b × (a ≡ b)

  -- Host functions that keep nothing stay as they are, for any commands.
  abbrev pub HostsStay : Type 0
  HostsStay = (old last : Embedding (HostObject I F)) (commands : List Command)
      (replies : List Reply)
      → All KeepsNothing old.state.hosts → AppliesAll (HostStep members) old commands replies last
      → last.state.hosts ≡ old.state.hosts

  -- The other laws.
  pub record CallsOfTheEngine : Type 0 where
    pub need_no_more_fuel : CallsNeedNoMore (HostStep members)
    pub need_no_deeper : CallsNeedNoDeeper (HostStep members)
    pub lists_need_no_more_fuel : CommandListsNeedNoMore (HostStep members)
    pub lists_need_no_deeper : CommandListsNeedNoDeeper (HostStep members)
    pub lists_end_early : CommandListsEndEarly (HostStep members)
    pub end_early : (bound : ℕ) (outside : Frame) → RunsEndEarly (HostStep members) bound outside
    pub runs_keep_to : (marks : Marks)
        → RunsKeepTo type_of_host (HostAnswers members) (marked marks)
    pub runs_cannot_tell : (marks : Marks)
        → RunsCannotTell type_of_host (HostAnswers members) (marked marks)
    pub links_keep_to : (marks : Marks)
        → LinksKeepTo type_of_host (HostAnswers members) (marked marks)
    pub links_cannot_tell : (marks : Marks)
        → LinksCannotTell type_of_host (HostAnswers members) (marked marks)
    pub keep_to_their_reach : CommandsKeepToTheirReach type_of_host (HostAnswers members)
    pub others_change_nothing : OthersChangeNoAnswers type_of_host (HostAnswers members)
    pub out_of_reach_changes_nothing : OutOfReachChangesNoAnswers type_of_host (HostAnswers members)
    pub links_are_apart : LinksAreApart type_of_host (HostAnswers members)
    pub strangers_are_apart : StrangersAreApart type_of_host (HostAnswers members)
    pub registered_ones_are_shared : OnlyRegisteredOnesAreShared type_of_host (HostAnswers members)
    pub strangers_change_nothing : StrangersChangeNoAnswers type_of_host (HostAnswers members)
    pub hosts_without_start : LinksWithoutStart (HostStep members)
    pub hosts_stay : HostsStay
