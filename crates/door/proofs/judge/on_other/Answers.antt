use borrow.Author.Tests.{eq-eqb, ne_eqb}
use Rattle.door.proofs.judge.on_other.Goals as goal

pub returns-then-not-st : goal.returns-then-not-st
returns-then-not-st c = simp c.if-not-st.true

pub returns-then-kind-eq-ACKNOWLEDGE : goal.returns-then-kind-eq-ACKNOWLEDGE
returns-then-kind-eq-ACKNOWLEDGE c = simp (c.if-not-st.false, eq-eqb c.args.kind 0x05 c.if-kind-eq-ACKNOWLEDGE.true)

pub returns-then-kind-eq-LOGOUT : goal.returns-then-kind-eq-LOGOUT
returns-then-kind-eq-LOGOUT c =
    let k = c.args.kind in
    simp (c.if-not-st.false, ne_eqb k 0x05 c.if-kind-eq-ACKNOWLEDGE.false, eq-eqb k 0x21 c.if-kind-eq-LOGOUT.true)

pub returns : goal.returns
returns c =
    let n = c.args.kind in
    simp (c.if-not-st.false, ne_eqb n 0x05 c.if-kind-eq-ACKNOWLEDGE.false, ne_eqb n 0x21 c.if-kind-eq-LOGOUT.false)
