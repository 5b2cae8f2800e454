use Rattle.scripts.proofs.asking.act.Goals as goal

pub returns-in-Invoke : goal.returns-in-Invoke
returns-in-Invoke g c = rw c.in-Invoke.is (rw (c.meant.ensures, c.as_str.ensures.value, c.as_slice.ensures.value) at c.call.ensures)

pub returns-in-Get : goal.returns-in-Get
returns-in-Get g c = rw c.in-Get.is (rw (c.meant-in-Get.ensures, c.as_str-in-Get.ensures.value) at c.get.ensures)
