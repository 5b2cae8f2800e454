use Rattle.std.proofs.Common.{◌≡◌, ◌<◌, length, refl, arith}
use Rattle.std.specs.Prelude.{Some, slice_get}
use Rattle.std.proofs.lemmas.List.{length-map}
use Rattle.std.proofs.lemmas.Option.{slice_get_within}
use Rattle.store.specs.Contents.{function_at, functions_in}
use Rattle.exec.proofs.hosts.have_hosts.Goals as goal

pub returns : goal.returns
returns g c = (
  λ w. record {
    typed = λ address number f there is.
        let code = c.code-code.result.now in
        let here : slice_get (functions_in code) address ≡ Some f = rw c.code-code.ensures there in
        let inside : address < length (functions_in code) = slice_get_within (functions_in code) address f here in
        c.loop-address.invariant address number f
        (omega (
          arith,
          inside,
          length-map code.functions (function_at code.hosts code.instances),
          c.function_count-address-end.ensures,
          c.loop-address-test.false,
        )) here is;
    no_funcrefs = c.args.hosts.now.no_funcrefs;
  },
  λ ready. refl,
)
