-- Where names are left, the line of the next one starts here.
use Rattle.netlist_names.proofs.Finding.{next-told, next-record, next_name, names_none}
use Rattle.netlist_names.specs.code.Walk.{names_from}
use Rattle.std.proofs.Common.{◌-◌, ◌∷◌, ◌≡◌, ap, arith, length}
use Rattle.netlist_names.proofs.NamesIterator.next.Goals as goal

pub returns-then-self-eq0-clause-steps : goal.returns-then-self-eq0-clause-steps
returns-then-self-eq0-clause-steps c =
    let e = names_none c.args.self.now.file.now c.args.self.now.at c.if-self-eq0.true in (e, e)

pub name_at-name-requires-clause-at_in_bounds : goal.name_at-name-requires-clause-at_in_bounds
name_at-name-requires-clause-at_in_bounds c =
    let n = next_name c.args.self.now.there (omega (arith, c.if-self-eq0.false)) in omega (arith, n.ended)

pub name_at-name-requires-clause-file_value : goal.name_at-name-requires-clause-file_value
name_at-name-requires-clause-file_value c = next-record (next_name c.args.self.now.there (omega (arith, c.if-self-eq0.false)))

pub line_end-self-requires : goal.line_end-self-requires
line_end-self-requires c =
    let n = next_name c.args.self.now.there (omega (arith, c.if-self-eq0.false)) in omega (arith, n.ended)

pub invariant_of-self : goal.invariant_of-self
invariant_of-self c =
    record { there = rw c.line_end-self.ensures ((next_name c.args.self.now.there (omega (arith, c.if-self-eq0.false))).rest) }

pub returns-clause-steps : goal.returns-clause-steps
returns-clause-steps c =
    let n = next_name c.args.self.now.there (omega (arith, c.if-self-eq0.false)) in
    rw (c.line_end-self.ensures, next-told n c.name_at-name.ensures) n.all

pub returns-clause-goes : goal.returns-clause-goes
returns-clause-goes c =
    let n = next_name c.args.self.now.there (omega (arith, c.if-self-eq0.false)) in
    let s = c.args.self.now in
    let e : names_from s.file.now s.at s.left ≡ n.name ∷ names_from s.file.now c.line_end-self.result (s.left - 1) =
    rw c.line_end-self.ensures n.all in
    record { on = λ h. (tt, tt, omega (arith, ap length e)); keeps = tt; rests = λ h. tt }
