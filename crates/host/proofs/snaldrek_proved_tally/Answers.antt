-- Three returns: a tally of another length, a full one, and one that is counted and written back; each rewrites the definitions by the tests that led there.
use mathlib.Core.Path.{◌≡◌, sym, ap, ◌∙◌}
use mathlib.Core.List.{List}
use Prim.Native.Nat.{ℕ}
use native.Mathlib.Omega.{arith}
use lib.Dec.{eqb}
use lib.ListN.{length}
use borrow.Author.Tests.{eq-eqb, ne_eqb}
use Rattle.std.specs.Prelude.{Option, is_some, unwrap_or}
use Rattle.books.specs.declared.Tally.{Tally}
use Rattle.books.specs.Tally.{Tallied, tally_of, told}
use Rattle.octets.proofs.Joining.{start, next, done}
use Rattle.host.specs.Books.{tally_in, counted_in, tally_answer, tally_after}
use borrow.Author.Rules.{rules}
use Rattle.host.proofs.snaldrek_proved_tally.Goals as goal

-- whether the answer was counted, and the tally then, by what the books hand back
ok_by : (b : List ℕ) (a : ℕ) (t : Tally) (o p : Option Tally) → t ≡ tally_in b → told t o ≡ tally_of t (eqb a 0) → o ≡ p → (counted_in b a).ok ≡ is_some p
ok_by b a t o p read e is = ap (λ (y : Tallied). y.ok) (sym (e ∙ ap (λ (u : Tally). tally_of u (eqb a 0)) read)) ∙ ap (λ (q : Option Tally). is_some q) is

tally_by : (b : List ℕ) (a : ℕ) (t : Tally) (o p : Option Tally) → t ≡ tally_in b → told t o ≡ tally_of t (eqb a 0) → o ≡ p → (counted_in b a).tally ≡ unwrap_or p t
tally_by b a t o p read e is = ap (λ (y : Tallied). y.tally) (sym (e ∙ ap (λ (u : Tally). tally_of u (eqb a 0)) read)) ∙ ap (λ (q : Option Tally). unwrap_or q t) is

pub returns-then-tally-ne12 : goal.returns-then-tally-ne12
unfolding tally_answer tally_after
returns-then-tally-ne12 c =
    let h = ne_eqb (length c.args.tally.now) 12 c.if-tally-ne12.true in
    record {
      value = c.refused.ensures ∙ rw h;
      tally_after = rw h;
    }

pub returns-in_default : goal.returns-in_default
unfolding tally_answer tally_after
returns-in_default c =
    let a = c.args in
    let h = eq-eqb (length a.tally.now) 12 c.if-tally-ne12.false in
    let no = ok_by a.tally.now a.answer c.tally_in.result c.counted.result _ c.tally_in.ensures c.counted.ensures c.in_default.is in
    record {
      value = c.refused-in_default.ensures ∙ rw (h, no);
      tally_after = rw (h, no);
    }

pub returns : goal.returns
unfolding tally_answer tally_after
returns c =
    let a = c.args in
    let n : length a.tally.now ≡ 12 = omega arith in
    let h = eq-eqb (length a.tally.now) 12 n in
    let yes = ok_by a.tally.now a.answer c.tally_in.result c.counted.result _ c.tally_in.ensures c.counted.ensures c.in-Some.is in
    let more = tally_by a.tally.now a.answer c.tally_in.result c.counted.result _ c.tally_in.ensures c.counted.ensures c.in-Some.is in
    let bytes_long : length c.tally_bytes-bytes.result ≡ 12 = search rules in
    let new = done (next c.tally_bytes-bytes.result _ 12 0 (omega arith) (omega arith) c.copy_in.ensures.dst_after (start a.tally.now 12 n)) in
    record {
      value = c.code.ensures ∙ rw (c.accepted.ensures, h, yes);
      tally_after = new ∙ c.tally_bytes-bytes.ensures ∙ rw (h, yes, more);
    }
