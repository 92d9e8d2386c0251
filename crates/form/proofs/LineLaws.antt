-- A part of a text up to a stop: by its length, and by the turns of the loop that looks for the stop. And a text's first line, and the lines behind it.
-- Assumes nothing.
use Prim.Native.Nat.{ℕ, zero, suc, ◌+◌, ◌-◌, ◌≤◌, ◌<◌}
use mathlib.Core.Path.{◌≡◌, refl, ap, ◌∙◌}
use mathlib.Core.Bool.{Bool, true, false, cond}
use mathlib.Core.List.{List, [], ◌∷◌}
use native.Mathlib.Nat.{sub-zero}
use native.Mathlib.Omega.{arith}
use lib.ListN.{length, get_or, take, drop, length-take, length-drop}
use lib.Seq.{take_all}
use Rattle.form.specs.Lines.{Stop, End, Mark, Ink, stops_at, up_to, from, with_first, lines_in, content_of}

pub up_to_take : (e : Stop) (s : List ℕ) → take (length (up_to e s)) s ≡ up_to e s
unfolding up_to
up_to_take e [] = refl
up_to_take e (x ∷ s) = go (up_to_take e s) (stops_at e x)
  where
    go : take (length (up_to e s)) s ≡ up_to e s → (b : Bool) → take (length (cond b [] (x ∷ up_to e s))) (x ∷ s) ≡ cond b [] (x ∷ up_to e s)
    go r true = refl
    go r false = ap (λ (l : List ℕ). x ∷ l) r

pub from_drop : (e : Stop) (s : List ℕ) → drop (length (up_to e s)) s ≡ from e s
unfolding up_to from
from_drop e [] = refl
from_drop e (x ∷ s) = go (from_drop e s) (stops_at e x)
  where
    go : drop (length (up_to e s)) s ≡ from e s → (b : Bool) → drop (length (cond b [] (x ∷ up_to e s))) (x ∷ s) ≡ cond b (x ∷ s) (from e s)
    go r true = refl
    go r false = r

-- the same parts, as code cuts them out: up to index n, and from n to the end
pub cut_before : (e : Stop) (s : List ℕ) (n : ℕ) → n ≡ length (up_to e s) → take (n - 0) s ≡ up_to e s
cut_before e s n h = rw sub-zero (ap (λ (k : ℕ). take k s) h ∙ up_to_take e s)

pub cut_from : (e : Stop) (s : List ℕ) (n m : ℕ) → n ≡ length (up_to e s) → m ≡ length s → take (m - n) (drop n s) ≡ from e s
cut_from e s n m h k =
    take_all (m - n) (drop n s) (omega (arith, length-drop n s)) ∙ ap (λ (i : ℕ). drop i s) h ∙ from_drop e s

-- where the code finds the stop: no byte before it is one, and it is one, or the end
pub up_to_is : (e : Stop) (s : List ℕ) (n : ℕ) → n ≤ length s → ((k : ℕ) → k < n → stops_at e (get_or s k 0) ≡ false) → (n < length s → stops_at e (get_or s n 0) ≡ true)
    → n ≡ length (up_to e s)
unfolding up_to
up_to_is e [] n h b f = omega arith
up_to_is e (x ∷ s) zero h b f = rw (f (omega arith))
up_to_is e (x ∷ s) (suc n) h b f = rw (b 0 (omega arith)) (ap suc (up_to_is e s n (omega arith) (λ k l. b (suc k) (omega arith)) (λ l. f (omega arith))))

-- the first line of a text that has any bytes, and the others
pub first_line : (s : List ℕ) → 0 < length s → lines_in s ≡ up_to End s ∷ lines_in (drop (length (up_to End s) + 1) s)
unfolding lines_in up_to with_first
first_line [] h = absurd (omega arith)
first_line (x ∷ s) h = go s (first_line s) (stops_at End x)
  where
    go : (t : List ℕ) → (0 < length t → lines_in t ≡ up_to End t ∷ lines_in (drop (length (up_to End t) + 1) t)) → (b : Bool)
        → cond b ([] ∷ lines_in t) (with_first x (lines_in t)) ≡ cond b [] (x ∷ up_to End t) ∷ lines_in (drop (length (cond b [] (x ∷ up_to End t)) + 1) (x ∷ t))
    go t r true = refl
    go [] r false = refl
    go (y ∷ t) r false =
        let n = length (up_to End (y ∷ t)) in
        let e : suc n + 1 ≡ suc (n + 1) = omega arith in
        rw (r (omega arith), e)

-- no part is longer than the whole
up_to_short : (e : Stop) (s : List ℕ) → length (up_to e s) ≤ length s
up_to_short e s = omega (arith, length-take (length (up_to e s)) s, ap length (up_to_take e s))

from_short : (e : Stop) (s : List ℕ) → length (from e s) ≤ length s
from_short e s = omega (arith, length-drop (length (up_to e s)) s, ap length (from_drop e s))

pub content_short : (l : List ℕ) → length (content_of l) ≤ length l
unfolding content_of
content_short l = omega (arith, from_short Ink (up_to Mark l), up_to_short Mark l)

-- the line at index i of a text, as code cuts it out of what is left
pub line_cut : (s : List ℕ) (i j : ℕ) → j ≡ length (up_to End (take (length s - i) (drop i s)))
    → (take (j - 0) (take (length s - i) (drop i s)) ≡ up_to End (drop i s)) × (j ≡ length (up_to End (drop i s)))
line_cut s i j h =
    let e : take (length s - i) (drop i s) ≡ drop i s = take_all (length s - i) (drop i s) (omega (arith, length-drop i s)) in
    (cut_before End _ j h ∙ ap (up_to End) e, h ∙ ap (λ (t : List ℕ). length (up_to End t)) e)
