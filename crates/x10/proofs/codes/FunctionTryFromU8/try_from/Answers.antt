use Rattle.x10.specs.declared.Function.TheVariants.{AllUnitsOff, AllLightsOn, On, Off, Dim, Bright, AllLightsOff, HailRequest, HailAcknowledge, StatusOn, StatusOff, StatusRequest}
use Rattle.x10.proofs.Laws.Codes.{found, no_function}
use Rattle.x10.proofs.codes.FunctionTryFromU8.try_from.Goals as goal

pub returns-in-0 : goal.returns-in-0
returns-in-0 c = found AllUnitsOff c.args.code c.in-0.is

pub returns-in-1 : goal.returns-in-1
returns-in-1 c = found AllLightsOn c.args.code c.in-1.is

pub returns-in-2 : goal.returns-in-2
returns-in-2 c = found On c.args.code c.in-2.is

pub returns-in-3 : goal.returns-in-3
returns-in-3 c = found Off c.args.code c.in-3.is

pub returns-in-4 : goal.returns-in-4
returns-in-4 c = found Dim c.args.code c.in-4.is

pub returns-in-5 : goal.returns-in-5
returns-in-5 c = found Bright c.args.code c.in-5.is

pub returns-in-6 : goal.returns-in-6
returns-in-6 c = found AllLightsOff c.args.code c.in-6.is

pub returns-in-8 : goal.returns-in-8
returns-in-8 c = found HailRequest c.args.code c.in-8.is

pub returns-in-9 : goal.returns-in-9
returns-in-9 c = found HailAcknowledge c.args.code c.in-9.is

pub returns-in-13 : goal.returns-in-13
returns-in-13 c = found StatusOn c.args.code c.in-13.is

pub returns-in-14 : goal.returns-in-14
returns-in-14 c = found StatusOff c.args.code c.in-14.is

pub returns-in-15 : goal.returns-in-15
returns-in-15 c = found StatusRequest c.args.code c.in-15.is

pub returns-in_default : goal.returns-in_default
returns-in_default c =
    let r = c.in_default.in_default-own.rest in
    let x = c.args.code in
    no_function x
    r.0.0.0.0.0.0.0.0.0.0.0.1
    r.0.0.0.0.0.0.0.0.0.0.1
    r.0.0.0.0.0.0.0.0.0.1
    r.0.0.0.0.0.0.0.0.1
    r.0.0.0.0.0.0.0.1
    r.0.0.0.0.0.0.1
    r.0.0.0.0.0.1
    r.0.0.0.0.1
    r.0.0.0.1
    r.0.0.1
    r.0.1
    r.1
