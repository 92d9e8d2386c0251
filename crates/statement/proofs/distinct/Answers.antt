-- After k turns the first k words of the two nullifiers are equal; a word that differs lets them pass at once, and four equal ones are all there is.
use Prim.Native.Nat.{ℕ, ◌<◌}
use mathlib.Core.Path.{◌≡◌, refl, sym, ap₂, ◌∙◌}
use mathlib.Core.List.{List}
use native.Mathlib.Omega.{arith}
use lib.ListN.{get_or}
use Rattle.octets.specs.Parts.{Bytes, listed, field, same}
use Rattle.casefile.specs.Fields.{nullifier_of}
use Rattle.refusals.proofs.RuleLaws.{one_holds, one_fails}
use Rattle.statement.specs.CaseRefusals.{no7}
use Rattle.statement.proofs.WordLaws.{each_byte, nullifier_bytes, word_differs, word_more, words_same}
use borrow.Author.Rules.{rules}
use Rattle.statement.proofs.distinct.Goals as goal

are_bytes : (case one two : List ℕ) → one ≡ nullifier_of 1 case → two ≡ nullifier_of 2 case → ((i : ℕ) → get_or case i 0 < 256) → Bytes one × Bytes two
are_bytes case one two e f g =
    let h = each_byte case g in
    (rw e (nullifier_bytes 1 case h), rw f (nullifier_bytes 2 case h))

pub loop-k-init : goal.loop-k-init
unfolding field listed
loop-k-init c = (search rules, (search rules, (search rules, refl)))

pub returns-then-le64 : goal.returns-then-le64
unfolding no7
returns-then-le64 c =
    let e = word_differs c.nullifier-one.result c.nullifier-two.result c.loop-k.k (λ h. c.if-le64.true (c.le64.ensures ∙ h ∙ sym c.le64-in-loop-k.ensures)) in
    one_fails _ 7 0 (sym (ap₂ same c.nullifier-one.ensures c.nullifier-two.ensures) ∙ e)

pub loop-k-preserved : goal.loop-k-preserved
loop-k-preserved c =
    let v = c.loop-k.invariant in
    let b = are_bytes c.args.case.now _ _ c.nullifier-one.ensures c.nullifier-two.ensures (λ i. (c.type_inv.case i).fits) in
    (search rules, (v.1.0, (v.1.1.0, word_more c.nullifier-one.result c.nullifier-two.result c.loop-k.k b.0 b.1 (sym c.le64.ensures ∙ c.if-le64.false ∙ c.le64-in-loop-k.ensures) v.1.1.1)))

pub returns : goal.returns
unfolding no7
returns c =
    let v = c.loop-k.invariant in
    let four : c.loop-k.k ≡ 4 = omega arith in
    one_holds _ 7 0 (sym (ap₂ same c.nullifier-one.ensures c.nullifier-two.ensures) ∙ words_same c.nullifier-one.result c.nullifier-two.result v.1.0 v.1.1.0 (rw four at v.1.1.1))
