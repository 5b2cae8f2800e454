use Rattle.subcommands.proofs.calls.call_export.Goals as goal

pub returns : goal.returns
returns g c = record {
  arguments = c.in_ok-args.args.items;
  are = c.in_ok-args.ensures;
  called = rw (← c.as_slice.ensures.value) (c.in_ok-call.ensures.applied, c.in_ok-call.ensures.goes_well, c.in_ok-call.ensures.as_said);
}
