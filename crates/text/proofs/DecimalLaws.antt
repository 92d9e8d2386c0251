-- A number in decimal: by its last digit and the digits before it, and how long it is.
-- Assumes nothing.
use Prim.Native.Nat.{ℕ, zero, suc, ◌+◌, ◌-◌, ◌*◌, ◌/◌, ◌%◌, ◌≤◌, ◌<◌, ◌^◌}
use mathlib.Core.Path.{◌≡◌, ap, ◌∙◌}
use mathlib.Core.Bool.{cond}
use mathlib.Core.List.{List, [], ◌∷◌, ◌++◌, append_assoc, append-nil}
use native.Mathlib.Nat.{lt_of_not-le, pow-suc}
use native.Mathlib.Decide.{dec_le}
use native.Mathlib.Omega.{arith}
use lib.Dec.{ltb}
use lib.ListN.{length, get_or, length-append}
use borrow.Author.Tests.{lt-ltb, le-ltb}
use Rattle.text.specs.Decimal.{digit, decimal_within, decimal}

-- any bound above the number gives the same digits
within_alike : (j k n : ℕ) → n < j → n < k → decimal_within j n ≡ decimal_within k n
unfolding decimal_within
within_alike zero k n hj hk = absurd (omega arith)
within_alike (suc j) zero n hj hk = absurd (omega arith)
within_alike (suc j) (suc k) n hj hk = go (λ a b. within_alike j k (n / 10) a b) (dec_le 10 n)
  where
    go : (n / 10 < j → n / 10 < k → decimal_within j (n / 10) ≡ decimal_within k (n / 10)) → Dec (10 ≤ n)
        → cond (ltb n 10) (digit n ∷ []) (decimal_within j (n / 10) ++ (digit (n % 10) ∷ []))
        ≡ cond (ltb n 10) (digit n ∷ []) (decimal_within k (n / 10) ++ (digit (n % 10) ∷ []))
    go r (yes h) = rw (r (omega arith) (omega arith))
    go r (no h) = rw (lt-ltb n 10 (lt_of_not-le h))

-- one digit
pub decimal_one : (n : ℕ) → n < 10 → decimal n ≡ digit n ∷ []
unfolding decimal decimal_within
decimal_one n h = rw (lt-ltb n 10 h)

-- more
pub decimal_more : (n : ℕ) → 10 ≤ n → decimal n ≡ decimal (n / 10) ++ (digit (n % 10) ∷ [])
unfolding decimal decimal_within
decimal_more n h =
    rw (le-ltb n 10 h) (ap (λ (l : List ℕ). l ++ (digit (n % 10) ∷ [])) (within_alike n (suc (n / 10)) (n / 10) (omega arith) (omega arith)))

-- READ BACK: the number that a text begins with, behind digits that say v, and the text behind it
unfoldable pub read : ℕ → List ℕ → ℕ
read v [] = v
read v (x ∷ t) = cond (ltb x 48) v (read (v * 10 + (x - 48)) t)

unfoldable pub behind : List ℕ → List ℕ
behind [] = []
behind (x ∷ t) = cond (ltb x 48) (x ∷ t) (behind t)

read_digit : (v d : ℕ) (t : List ℕ) → read v (digit d ∷ t) ≡ read (v * 10 + d) t
unfolding read
read_digit v d t =
    let e : 48 + d - 48 ≡ d = omega arith in
    rw (le-ltb (48 + d) 48 (omega arith), e)

behind_digit : (d : ℕ) (t : List ℕ) → behind (digit d ∷ t) ≡ behind t
unfolding behind
behind_digit d t = rw (le-ltb (48 + d) 48 (omega arith))

read_within : (k n : ℕ) → n < k → (t : List ℕ) → (read 0 (decimal n ++ t) ≡ read n t) × (behind (decimal n ++ t) ≡ behind t)
read_within zero n h t = absurd (omega arith)
read_within (suc k) n h t = go (λ l. read_within k (n / 10) l (digit (n % 10) ∷ t)) (dec_le 10 n)
  where
    go : (n / 10 < k → (read 0 (decimal (n / 10) ++ (digit (n % 10) ∷ t)) ≡ read (n / 10) (digit (n % 10) ∷ t)) × (behind (decimal (n / 10) ++ (digit (n % 10) ∷ t)) ≡ behind (digit (n % 10) ∷ t)))
        → Dec (10 ≤ n) → (read 0 (decimal n ++ t) ≡ read n t) × (behind (decimal n ++ t) ≡ behind t)
    go r (yes l) =
        let e : decimal n ++ t ≡ decimal (n / 10) ++ (digit (n % 10) ∷ t) = rw (decimal_more n l) (append_assoc (decimal (n / 10)) (digit (n % 10) ∷ []) t) in
        let f = r (omega arith) in
        let v : n / 10 * 10 + n % 10 ≡ n = omega arith in
        (ap (read 0) e ∙ f.0 ∙ read_digit (n / 10) (n % 10) t ∙ ap (λ (x : ℕ). read x t) v, ap behind e ∙ f.1 ∙ behind_digit (n % 10) t)
    go r (no l) =
        let e : decimal n ++ t ≡ digit n ∷ t = rw (decimal_one n (lt_of_not-le l)) in
        let v : 0 * 10 + n ≡ n = omega arith in
        (ap (read 0) e ∙ read_digit 0 n t ∙ ap (λ (x : ℕ). read x t) v, ap behind e ∙ behind_digit n t)

pub read_decimal : (n : ℕ) (t : List ℕ) → read 0 (decimal n ++ t) ≡ read n t
read_decimal n t = (read_within (suc n) n (omega arith) t).0

pub behind_decimal : (n : ℕ) (t : List ℕ) → behind (decimal n ++ t) ≡ behind t
behind_decimal n t = (read_within (suc n) n (omega arith) t).1

-- NO LEADING ZEROS
lead : (k n : ℕ) → n < k → 0 < n → (t : List ℕ) → 48 < get_or (decimal n ++ t) 0 0
lead zero n h p t = absurd (omega arith)
lead (suc k) n h p t = go (λ l q. lead k (n / 10) l q ((digit (n % 10) ∷ []) ++ t)) (dec_le 10 n)
  where
    go : (n / 10 < k → 0 < n / 10 → 48 < get_or (decimal (n / 10) ++ ((digit (n % 10) ∷ []) ++ t)) 0 0) → Dec (10 ≤ n) → 48 < get_or (decimal n ++ t) 0 0
    go r (yes l) = rw (decimal_more n l, append_assoc (decimal (n / 10)) (digit (n % 10) ∷ []) t) (r (omega arith) (omega arith))
    go r (no l) = rw (decimal_one n (lt_of_not-le l)) (omega arith)

pub no_leading_zero : (n : ℕ) → 0 < n → 48 < get_or (decimal n) 0 0
no_leading_zero n h = rw append-nil at (lead (suc n) n (omega arith) h [])

-- how long it is at most
pub decimal_length : (k n : ℕ) → n < 10 ^ suc k → length (decimal n) ≤ suc k
decimal_length zero n h = rw (decimal_one n h) (omega arith)
decimal_length (suc k) n h = go (λ l. decimal_length k (n / 10) l) (dec_le 10 n)
  where
    go : (n / 10 < 10 ^ suc k → length (decimal (n / 10)) ≤ suc k) → Dec (10 ≤ n) → length (decimal n) ≤ suc (suc k)
    go f (yes l) =
        let e : n < 10 ^ suc k * 10 = rw (pow-suc 10 (suc k)) at h in
        let r : length (decimal (n / 10)) ≤ suc k = f (omega arith) in
        rw (decimal_more n l) (omega (arith, length-append (decimal (n / 10)) (digit (n % 10) ∷ [])))
    go f (no l) = rw (decimal_one n (lt_of_not-le l)) (omega arith)

-- by a bound on the digits: of a large number antt can run `decimal_within 20` and not `decimal`
pub decimal_within_lem : (k n : ℕ) → n < 10 ^ suc k → decimal n ≡ decimal_within (suc k) n
unfolding decimal_within
decimal_within_lem zero n h = decimal_one n h ∙ rw (lt-ltb n 10 h)
decimal_within_lem (suc k) n h = go (λ l. decimal_within_lem k (n / 10) l) (dec_le 10 n)
  where
    go : (n / 10 < 10 ^ suc k → decimal (n / 10) ≡ decimal_within (suc k) (n / 10)) → Dec (10 ≤ n)
        → decimal n ≡ cond (ltb n 10) (digit n ∷ []) (decimal_within (suc k) (n / 10) ++ (digit (n % 10) ∷ []))
    go f (yes l) =
        let e : n < 10 ^ suc k * 10 = rw (pow-suc 10 (suc k)) at h in
        decimal_more n l ∙ rw (f (omega arith), le-ltb n 10 l)
    go f (no l) = decimal_one n (lt_of_not-le l) ∙ rw (lt-ltb n 10 (lt_of_not-le l))

-- of a number of 64 bits
pub decimal_short : (n : ℕ) → n < 2 ^ 64 → length (decimal n) ≤ 20
decimal_short n h = decimal_length 19 n (omega arith)
