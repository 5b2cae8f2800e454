use Rattle.embed.proofs.embedding.Embedding.apply_command.Goals as goal

pub returns-in-Load-clause-applied : goal.returns-in-Load-clause-applied
returns-in-Load-clause-applied g c =
    rw (c.in-Load.is, c.from.ensures, ← c.as_slice.ensures.value) c.load_counted.ensures.loads

pub returns-in-Load-clause-counted : goal.returns-in-Load-clause-counted
returns-in-Load-clause-counted g c = rw c.from.ensures c.load_counted.ensures.counted

pub returns-in-Link-clause-applied : goal.returns-in-Link-clause-applied
returns-in-Link-clause-applied g c = rw (c.in-Link.is, c.from-in-Link.ensures) c.link_counted.ensures.links

pub returns-in-Link-clause-counted : goal.returns-in-Link-clause-counted
returns-in-Link-clause-counted g c = rw c.from-in-Link.ensures c.link_counted.ensures.counted

pub returns-in-Register-clause-applied : goal.returns-in-Register-clause-applied
returns-in-Register-clause-applied g c =
    rw (c.in-Register.is, c.from-in-Register.ensures, ← c.as_str.ensures.value) c.give_name.ensures.registers

pub returns-in-Call-clause-applied : goal.returns-in-Call-clause-applied
returns-in-Call-clause-applied g c =
    rw (c.in-Call.is, c.from-in-Call.ensures, ← c.as_str-in-Call.ensures.value, ← c.as_slice-in-Call.ensures.value)
    c.call_counted.ensures.calls

pub returns-in-Call-clause-counted : goal.returns-in-Call-clause-counted
returns-in-Call-clause-counted g c = rw c.from-in-Call.ensures c.call_counted.ensures.counted

pub returns-in-GetGlobal-clause-applied : goal.returns-in-GetGlobal-clause-applied
returns-in-GetGlobal-clause-applied g c =
    let reads = rw (← c.from-in-GetGlobal.ensures, c.as_str-in-GetGlobal.ensures.value) at c.values_of_global.ensures in
    rw c.in-GetGlobal.is reads
