-- WHAT IS PACKED IS FOUND AGAIN: a bag that was made of a seal and cases keeps to the layout, and its bodies are these.
-- Assumes nothing.
use Rattle.std.proofs.Common.{◌≡◌, ℕ, suc, ◌+◌, ◌-◌, ◌*◌, ◌^◌, ◌<◌, ◌≤◌, true, List, [], ◌∷◌, ◌++◌, map, length, drop, refl, ap, ◌∙◌, append_assoc, arith, length-append, take_at, drop_at, eq-eqb, le-leb}
use lib.Seq.{get_or_at}
use Rattle.octets.specs.Parts.{field}
use Rattle.octets.specs.Numbers.{little, little_bytes}
use Rattle.octets.specs.Rows.{flat}
use Rattle.octets.proofs.NumberLaws.{little_bytes_length, little_bytes_lem}
use Rattle.octets.proofs.PartLaws.{field_part}
use Rattle.bag.specs.Contents.{row_count, row_start, entry_of, kind_at, in_order, laid_out, body_of, bodies_from, cases_of}
use Rattle.packing.specs.Bags.{row, rows_from, bag_of}

-- LENGTHS
pub row_length : (kind at size : ℕ) → length (row kind at size) ≡ 9
unfolding row
row_length kind at size = rw (length-append (little_bytes 4 at) (little_bytes 4 size), little_bytes_length 4 at, little_bytes_length 4 size)

pub rows_length : (i at : ℕ) (sizes : List ℕ) → length (rows_from i at sizes) ≡ 9 * length sizes
unfolding rows_from
rows_length i at [] = refl
rows_length i at (size ∷ sizes) =
    let r = row (kind_at i) at size in
    omega (arith, length-append r (rows_from (i + 1) (at + size) sizes), row_length (kind_at i) at size, rows_length (i + 1) (at + size) sizes)

lengths : (bodies : List (List ℕ)) → length (map length bodies) ≡ length bodies
lengths [] = refl
lengths (c ∷ cs) = ap suc (lengths cs)

pub bag_length_lem : (bodies : List (List ℕ)) → length (bag_of bodies) ≡ row_start (length bodies) + length (flat bodies)
unfolding bag_of
bag_length_lem bodies =
    let n = length bodies in
    let rows = rows_from 0 (row_start n) (map length bodies) in
    omega (arith, length-append (little_bytes 2 n ++ rows) (flat bodies), length-append (little_bytes 2 n) rows, little_bytes_length 2 n, rows_length 0 (row_start n) (map length bodies), lengths bodies)

-- A ROW, read: a part of known length behind a part of known length
pub part_at : (p s q : List ℕ) (at n : ℕ) → length p ≡ at → length s ≡ n → field at n (p ++ (s ++ q)) ≡ s
part_at p s q at n h k =
    let e : drop at (p ++ (s ++ q)) ≡ s ++ q = drop_at p (s ++ q) at h in
    field_part at n (p ++ (s ++ q)) (omega (arith, length-append p (s ++ q), length-append s q)) ∙ rw e (take_at s q n k)

number_at : (p q : List ℕ) (at n : ℕ) → length p ≡ at → n < 256 ^ 4 → little (field at 4 (p ++ (little_bytes 4 n ++ q))) ≡ n
number_at p q at n h k = rw (part_at p (little_bytes 4 n) q at 4 h (little_bytes_length 4 n)) (little_bytes_lem 4 n k)

-- row i of a bag that has it there
record Row (i at size : ℕ) (b : List ℕ) : Type 0 where
  of_kind : (entry_of i b).kind ≡ kind_at i
  starts : (entry_of i b).offset ≡ at
  long : (entry_of i b).size ≡ size

row_at : (i at size : ℕ) (p q b : List ℕ) → b ≡ p ++ (row (kind_at i) at size ++ q) → length p ≡ row_start i → at < 256 ^ 4 → size < 256 ^ 4 → Row i at size b
unfolding entry_of row
row_at i at size p q b e h ha hs =
    let k = kind_at i ∷ [] in
    let o = little_bytes 4 at in
    let s = little_bytes 4 size in
    let e1 : b ≡ (p ++ k) ++ (o ++ (s ++ q)) = e ∙ simp append_assoc in
    let e2 : b ≡ ((p ++ k) ++ o) ++ (s ++ q) = e ∙ simp append_assoc in
    record {
      of_kind = rw e (get_or_at p (kind_at i) ((o ++ s) ++ q) 0 (row_start i) h);
      starts = rw e1 (number_at (p ++ k) (s ++ q) (row_start i + 1) at (omega (arith, length-append p k)) ha);
      long = rw e2 (number_at ((p ++ k) ++ o) q (row_start i + 5) size (omega (arith, length-append (p ++ k) o, length-append p k, little_bytes_length 4 at)) hs);
    }

-- ALL ROWS from row i on, and their bodies. p is what stands before these rows, m what stands between them and their bodies
module _ (b : List ℕ) where
  record Found (i at : ℕ) (cs : List (List ℕ)) : Type 0 where
    order : in_order (length cs) i at b ≡ true
    bodies : bodies_from (length cs) i b ≡ cs

  body_at : (i at : ℕ) (c p q : List ℕ) → Row i at (length c) b → b ≡ p ++ (c ++ q) → length p ≡ at → body_of i b ≡ c
  unfolding body_of
  body_at i at c p q r e h =
      let d : drop at b ≡ c ++ q = ap (drop at) e ∙ drop_at p (c ++ q) at h in
      rw (r.starts, r.long, d) (take_at c q (length c) refl)

  found : (cs : List (List ℕ)) (i at : ℕ) (p m : List ℕ) → b ≡ p ++ (rows_from i at (map length cs) ++ (m ++ flat cs)) → length p ≡ row_start i
      → at ≡ length p + (9 * length cs + length m) → at + length (flat cs) ≤ 65536 → Found i at cs
  unfolding in_order bodies_from rows_from flat
  found [] i at p m e h a l =
      let n : at ≡ length b = omega (arith, ap length e, length-append p (m ++ []), length-append m []) in
      record { order = eq-eqb at (length b) n; bodies = refl }
  found (c ∷ cs) i at p m e h a l =
      let n = length c in
      let rs = rows_from (i + 1) (at + n) (map length cs) in
      let r = row (kind_at i) at n in
      let k = length-append c (flat cs) in
      let ra = row_length (kind_at i) at n in
      let rb = rows_length (i + 1) (at + n) (map length cs) in
      let e1 : b ≡ p ++ (r ++ (rs ++ (m ++ (c ++ flat cs)))) = e ∙ simp append_assoc in
      let e2 : b ≡ (p ++ (r ++ (rs ++ m))) ++ (c ++ flat cs) = e ∙ simp append_assoc in
      let e3 : b ≡ (p ++ r) ++ (rs ++ ((m ++ c) ++ flat cs)) = e ∙ simp append_assoc in
      let x = row_at i at n p (rs ++ (m ++ (c ++ flat cs))) b e1 h (omega arith) (omega arith) in
      let y = body_at i at c (p ++ (r ++ (rs ++ m))) (flat cs) x e2 (omega (arith, length-append p (r ++ (rs ++ m)), length-append r (rs ++ m), length-append rs m, ra, rb, lengths cs)) in
      let z = found cs (i + 1) (at + n) (p ++ r) (m ++ c) e3 (omega (arith, length-append p r, ra)) (omega (arith, length-append p r, length-append m c, ra)) (omega arith) in
      record {
        order = rw (x.of_kind, x.starts, x.long, eq-eqb (kind_at i) (kind_at i) refl, eq-eqb at at refl) z.order;
        bodies = rw y (ap (λ (t : List (List ℕ)). c ∷ t) z.bodies);
      }

-- THE THEOREM, for a seal and up to seven cases that fit a bag
module _ (seal : List ℕ) (cases : List (List ℕ)) (few : length cases ≤ 7) (short : length (bag_of (seal ∷ cases)) ≤ 65536) where
  bag : List ℕ
  bag = bag_of (seal ∷ cases)

  n : ℕ
  n = suc (length cases)

  all_found : Found bag 0 (row_start n) (seal ∷ cases)
  unfolding bag n bag_of
  all_found =
      found bag (seal ∷ cases) 0 (row_start n) (little_bytes 2 n) []
      (append_assoc (little_bytes 2 n) (rows_from 0 (row_start n) (map length (seal ∷ cases))) (flat (seal ∷ cases)))
      (little_bytes_length 2 n) (omega (arith, little_bytes_length 2 n)) (omega (arith, bag_length_lem (seal ∷ cases)))

  count : row_count bag ≡ n
  unfolding row_count bag n bag_of
  count =
      let rows = rows_from 0 (row_start n) (map length (seal ∷ cases)) in
      let bodies = flat (seal ∷ cases) in
      rw (append_assoc (little_bytes 2 n) rows bodies, part_at [] (little_bytes 2 n) (rows ++ bodies) 0 2 refl (little_bytes_length 2 n)) (little_bytes_lem 2 n (omega arith))

  pub laid_out_lem : laid_out (bag_of (seal ∷ cases)) ≡ true
  unfolding laid_out bag n
  laid_out_lem = rw (count, le-leb (length bag) 65536 short, le-leb 1 n (omega arith), le-leb n 8 (omega arith)) all_found.order

  pub seal_back : body_of 0 (bag_of (seal ∷ cases)) ≡ seal
  unfolding bodies_from bag
  seal_back = cc all_found.bodies

  pub cases_back : cases_of (bag_of (seal ∷ cases)) ≡ cases
  unfolding cases_of bodies_from bag n
  cases_back = let e : n - 1 ≡ length cases = omega arith in rw (count, e) (cc all_found.bodies)
