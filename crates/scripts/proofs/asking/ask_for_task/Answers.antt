use Rattle.scripts.proofs.asking.ask_for_task.Goals as goal

pub returns-in-Register : goal.returns-in-Register
returns-in-Register g c = rw c.in-Register.is (rw (c.meant.ensures, c.as_str-in-Register.ensures.value) at c.register.ensures)

pub returns-in-Perform : goal.returns-in-Perform
returns-in-Perform g c = rw c.in-Perform.is c.act.ensures

pub returns-in-AssertReturn : goal.returns-in-AssertReturn
returns-in-AssertReturn g c = rw c.in-AssertReturn.is c.act-in-AssertReturn.ensures

pub returns-in-AssertTrap : goal.returns-in-AssertTrap
returns-in-AssertTrap g c = rw c.in-AssertTrap.is c.act-in-AssertTrap.ensures

pub returns-in-AssertExhaustion : goal.returns-in-AssertExhaustion
returns-in-AssertExhaustion g c = rw c.in-AssertExhaustion.is c.act-in-AssertExhaustion.ensures

pub returns-in-Module : goal.returns-in-Module
returns-in-Module g c = rw c.in-Module.is (rw (c.contents.ensures, c.as_str.ensures.value) at c.load_and_link.ensures)

pub returns-in-AssertInvalid : goal.returns-in-AssertInvalid
returns-in-AssertInvalid g c = rw c.in-AssertInvalid.is (rw (c.contents-in-AssertInvalid.ensures, c.as_str-in-AssertInvalid.ensures.value) at c.load.ensures)

pub returns-in-AssertMalformed : goal.returns-in-AssertMalformed
returns-in-AssertMalformed g c = rw c.in-AssertMalformed.is (rw (c.contents-in-AssertMalformed.ensures, c.as_str-in-AssertMalformed.ensures.value) at c.load-in-AssertMalformed.ensures)

pub returns-in-AssertUnlinkable : goal.returns-in-AssertUnlinkable
returns-in-AssertUnlinkable g c = rw c.in-AssertUnlinkable.is (rw (c.contents-in-AssertUnlinkable.ensures, c.as_str-in-AssertUnlinkable.ensures.value) at c.load_and_link-in-AssertUnlinkable.ensures)

pub returns-in-AssertUninstantiable : goal.returns-in-AssertUninstantiable
returns-in-AssertUninstantiable g c = rw c.in-AssertUninstantiable.is
    (rw (c.contents-in-AssertUninstantiable.ensures, c.as_str-in-AssertUninstantiable.ensures.value) at c.load_and_link-in-AssertUninstantiable.ensures)
