-- The report on a bag, written an answer at a time.
-- Assumes nothing.
use Prim.Native.Nat.{ℕ, ◌+◌, ◌<◌}
use mathlib.Core.Path.{◌≡◌, refl, sym, ap, ◌∙◌}
use mathlib.Core.List.{List, [], ◌∷◌, ◌++◌, append_assoc, append-nil}
use native.Mathlib.Numerals.{add-one}
use lib.ListN.{length, get_or, take}
use lib.Seq.{take-suc}
use Rattle.octets.specs.Numbers.{little_bytes}
use Rattle.refusals.specs.declared.Answer.{Answer}
use Rattle.host.specs.Answers.{code_of}
use Rattle.host.specs.Bags.{answers_of}

answers_append : (xs ys : List Answer) → answers_of (xs ++ ys) ≡ answers_of xs ++ answers_of ys
unfolding answers_of
answers_append [] ys = refl
answers_append (a ∷ xs) ys = rw (answers_append xs ys) (sym (append_assoc (little_bytes 4 (code_of a)) (answers_of xs) (answers_of ys)))

-- one answer more
pub one_more : (given : List Answer) (i : ℕ) (d : Answer) → i < length given
    → answers_of (take i given) ++ little_bytes 4 (code_of (get_or given i d)) ≡ answers_of (take (i + 1) given)
unfolding answers_of
one_more given i d h =
    let a = get_or given i d in
    ap (λ (x : List ℕ). answers_of (take i given) ++ x) (sym (append-nil (little_bytes 4 (code_of a))))
    ∙ sym (answers_append (take i given) (a ∷ []))
    ∙ ap answers_of (sym (take-suc given i d h) ∙ ap (λ (k : ℕ). take k given) (sym (add-one i)))
