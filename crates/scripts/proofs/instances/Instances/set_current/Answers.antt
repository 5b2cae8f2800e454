use Rattle.std.proofs.Common.{◌∙◌, ℕ, List, refl, ap}
use Rattle.std.specs.Prelude.{Option, Some}
use Rattle.meaning.specs.scripts.Runner.{Instances, with_current}
use Rattle.scripts.specs.Runs.{instances_view}
use Rattle.scripts.proofs.lemmas.Names.{named-put}
use Rattle.scripts.proofs.instances.Instances.set_current.Goals.{in-Some+in_ok-key+in_ok-insert, in_default}
use Rattle.scripts.proofs.instances.Instances.set_current.Goals as goal

pub returns : goal.returns
returns c =
    let make : (List ℕ → Option ℕ) → Instances = λ named. record { current = c.args.instance; named = named } in
    elim c.match-name.branch [
      | in-Some+in_ok-key+in_ok-insert w ↦
          rw (w.in-Some.is, w.self-is)
          (ap make (named-put c.args.self.now.named w.insert.new.self _ c.args.instance w.in_ok-insert.ensures.updates)
          ∙ ap (λ (name : List ℕ). with_current (instances_view c.args.self.now) (Some name) c.args.instance) (w.in_ok-key.ensures.ok ∙ w.as_str.ensures.value))
      | in_default w ↦ rw (w.in_default.is, w.self-is) refl
    ]
