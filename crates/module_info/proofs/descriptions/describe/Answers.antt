use Rattle.module_info.proofs.Verdicts.{all-found-of, all-none-found}
use Rattle.module_info.proofs.descriptions.describe.Goals as goal

pub returns-in-Ok-clause-found : goal.returns-in-Ok-clause-found
returns-in-Ok-clause-found g c =
    all-found-of c.args.bytes.now c.in-Ok.decoded c.describe_module.result (c.bytes_spell_one_module.ensures c.args.bytes.now)
    (record { spelt = c.in-Ok.ensures.spelt; small = c.in-Ok.ensures.within_limits }) c.describe_module.ensures.found

pub returns-in-Err-clause-found : goal.returns-in-Err-clause-found
returns-in-Err-clause-found g c =
    all-none-found c.args.bytes.now c.in-Err.error c.write_decode_error.result c.in-Err.ensures.refused c.write_decode_error.ensures.verdict
