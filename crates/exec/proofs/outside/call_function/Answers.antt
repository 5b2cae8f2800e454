use Rattle.std.proofs.Common.{refl}
use Rattle.exec.proofs.Arguments.{argument_types}
use Rattle.store.specs.Contents.{host_function, store_with}
use Rattle.exec.proofs.outside.call_function.Goals as goal

pub call_code-requires : goal.call_code-requires
call_code-requires g c =
    let found = rw c.in-Some-InModule.field-0-is at c.in-Some-InModule.ensures.callee in
    record {
      takes = (
        c.args.address,
        record {
          valid = c.requires.valid;
          found = found.there;
          flat = found.flat;
          declared = found.declared;
          types = found.types;
          accepted = c.requires.arguments;
        },
      );
      hosts = c.requires.hosts;
    }

pub call_host_alone-requires : goal.call_host_alone-requires
call_host_alone-requires g c =
    let f = c.in-Some-InHost.host in
    let is = rw c.in-Some-InHost.field-0-is at c.in-Some-InHost.ensures.found in
    record {
      there = (
        f.ty.now,
        c.requires.hosts.typed c.args.address f.number (host_function f.number f.ty.now) is refl,
        argument_types (store_with c.args.code.now c.args.state.now) c.args.address c.args.args.now (host_function f.number f.ty.now) is c.requires.arguments,
      );
    }

pub returns-in-Some-InModule : goal.returns-in-Some-InModule
returns-in-Some-InModule g c =
    let found = rw c.in-Some-InModule.field-0-is at c.in-Some-InModule.ensures.callee in
    record {
      run = c.call_code.ensures.run c.args.address
          (record {
            valid = c.requires.valid;
            found = found.there;
            flat = found.flat;
            declared = found.declared;
            types = found.types;
            accepted = c.requires.arguments;
          });
    }

pub returns-in-Some-InHost : goal.returns-in-Some-InHost
returns-in-Some-InHost g c =
    let f = c.in-Some-InHost.host in
    let is = rw c.in-Some-InHost.field-0-is at c.in-Some-InHost.ensures.found in
    let typed = argument_types (store_with c.args.code.now c.args.state.now) c.args.address c.args.args.now (host_function f.number f.ty.now) is c.requires.arguments in
    record { run = c.call_host_alone.ensures.run (store_with c.args.code.now c.args.state.now) c.args.depth c.args.fuel.now c.args.address f.ty.now is typed }
