use Rattle.std.proofs.Common.{sym, arith}
use Rattle.tape.specs.TapeLaws.{tape_lawful}
use Rattle.tape.proofs.Tapes.{charge_under, bound-most}
use Rattle.tape.proofs.tape.TapeRoll.charge.Goals as goal

pub overflow_add-result : goal.overflow_add-result
overflow_add-result c = record { fits = omega (arith, c.if-n-bound.true, c.bound.ensures, bound-most c.args.self.now.items) }

pub returns-then-n-bound : goal.returns-then-n-bound
returns-then-n-bound c = sym (charge_under c.args.self.now.items c.args.n (omega (arith, c.if-n-bound.true, c.bound.ensures)))

pub returns-else-n-bound : goal.returns-else-n-bound
returns-else-n-bound c = sym ((tape_lawful c.args.self.now.items).free c.args.n (omega (arith, c.if-n-bound.false, c.bound.ensures)))
