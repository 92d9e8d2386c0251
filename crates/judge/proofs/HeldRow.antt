-- What the loop that looks at first words keeps: the rows that are left, and the first word of their first row.
-- Assumes nothing.
use mathlib.Core.Path.{◌≡◌, sym, ◌∙◌}
use mathlib.Core.List.{List, []}
use Prim.Native.Nat.{ℕ, ◌+◌, ◌-◌, ◌<◌, ◌≤◌}
use native.Mathlib.Omega.{arith}
use lib.ListN.{length, get_or, take, drop, length-drop}
use lib.Seq.{take_all, get_or-drop}
use Rattle.octets.specs.Numbers.{big}
use Rattle.ledger.specs.Sorted.{rising}
use Rattle.ledger.specs.Rows.{byte_order}
use Rattle.ledger.proofs.ByteOrder.{Bytes, byte_total, decided_below, word_turn}
use Rattle.ledger.proofs.Sorting.{rising_step}

-- x is the number that the first eight bytes of a row write
abbrev pub FirstWord : ℕ → List ℕ → Type 0
FirstWord x row = record { number : x ≡ big (take 8 row); bytes : Bytes row; row_len : length row ≡ 32 }

-- of all rows some are left, which rise exactly if all do, and the word held is the first one's
pub record Held (all rest : List (List ℕ)) (before : ℕ) : Type 0 where
  pub some_left : 0 < length rest
  pub no_more : length rest ≤ length all
  pub rises : rising byte_order rest ≡ rising byte_order all
  pub word : FirstWord before (get_or rest 0 [])

-- two rows by their first words: where the first row's is below the other's, the rows rise exactly if those after do
by_words : (rows : List (List ℕ)) (i : ℕ) {x y : ℕ} → i + 1 < length rows → FirstWord x (get_or rows i []) → FirstWord y (get_or rows (i + 1) []) → x < y
    → rising byte_order (drop i rows) ≡ rising byte_order (drop (i + 1) rows)
by_words rows i h a b less =
    let r = get_or rows i [] in
    let s = get_or rows (i + 1) [] in
    let e = word_turn r s 0 (omega (arith, a.row_len)) (omega (arith, b.row_len)) a.bytes b.bytes a.number b.number ∙ decided_below _ less in
    rising_step byte_order byte_total [] rows i h ∙ rw e

-- eight rows further
module _ (all rest : List (List ℕ)) {before one two three four five six seven eight : ℕ} (h : Held all rest before) (more : 8 < length rest)
    (w1 : FirstWord one (get_or rest 1 [])) (w2 : FirstWord two (get_or rest 2 [])) (w3 : FirstWord three (get_or rest 3 [])) (w4 : FirstWord four (get_or rest 4 []))
    (w5 : FirstWord five (get_or rest 5 [])) (w6 : FirstWord six (get_or rest 6 [])) (w7 : FirstWord seven (get_or rest 7 [])) (w8 : FirstWord eight (get_or rest 8 []))
    (l1 : before < one) (l2 : one < two) (l3 : two < three) (l4 : three < four) (l5 : four < five) (l6 : five < six) (l7 : six < seven) (l8 : seven < eight) where
  rises_on : rising byte_order rest ≡ rising byte_order (drop 8 rest)
  rises_on =
      by_words rest 0 (omega arith) h.word w1 l1 ∙ by_words rest 1 (omega arith) w1 w2 l2 ∙ by_words rest 2 (omega arith) w2 w3 l3 ∙ by_words rest 3 (omega arith) w3 w4 l4
      ∙ by_words rest 4 (omega arith) w4 w5 l5 ∙ by_words rest 5 (omega arith) w5 w6 l6 ∙ by_words rest 6 (omega arith) w6 w7 l7 ∙ by_words rest 7 (omega arith) w7 w8 l8

  pub eight_further : Held all (take (length rest - 8) (drop 8 rest)) eight
  eight_further =
      let few = h.no_more in
      let long = length-drop 8 rest in
      rw (take_all (length rest - 8) (drop 8 rest) (omega arith))
      (record {
        some_left = omega arith;
        no_more = omega arith;
        rises = sym rises_on ∙ h.rises;
        word = rw (get_or-drop 8 rest 0 []) w8;
      })
