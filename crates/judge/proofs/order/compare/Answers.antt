-- The order of the two rows is the order of what is left of them after so many words: two words that differ decide it, two that are equal hand it on to the next, and after four the rows are equal.
use mathlib.Core.Path.{◌≡◌, refl, sym, ap, ◌∙◌}
use mathlib.Core.List.{List, []}
use Prim.Native.Nat.{ℕ, ◌+◌, ◌*◌, ◌/◌, ◌<◌, ◌≤◌}
use native.Mathlib.Omega.{arith}
use borrow.Author.Rules.{rules}
use lib.ListN.{length, length-append, length-drop, get_or, take, drop, drop_of_length-le}
use Rattle.std.specs.Int.{w64, from_be_bytes}
use Rattle.std.proofs.Common.{length-take-le}
use Rattle.std.specs.Simd.{first_chunks}
use Rattle.std.proofs.lemmas.Slice.Zip.{zip_turn, zip_end}
use Rattle.octets.specs.Numbers.{big}
use Rattle.octets.proofs.ChunkLaws.{chunk_at, chunks_length}
use Rattle.octets.proofs.WordLaws.{big_from}
use Rattle.ledger.specs.Rows.{byte_order}
use Rattle.ledger.proofs.ByteOrder.{Bytes, decided, decided_apart, decided_level, word_turn}
use Rattle.judge.proofs.order.compare.Goals as goal

-- the number that piece k of a row writes
piece : (s : List ℕ) (k : ℕ) {p : List ℕ} {x : ℕ} → k < 4 → length s ≡ 32 → p ≡ get_or (first_chunks 8 (length s / 8) s) k [] → x ≡ from_be_bytes w64 p
    → x ≡ big (take 8 (drop (k * 8) s))
piece s k h ls ep ex =
    let long : length (take 8 (drop (k * 8) s)) ≡ 8 = length-take-le 8 (drop (k * 8) s) (omega (arith, length-drop (k * 8) s)) in
    ex ∙ ap (from_be_bytes w64) (ep ∙ chunk_at 8 (length s / 8) k s [] (omega arith)) ∙ big_from w64 _ long

-- word k of both rows
turn : (a b : List ℕ) (k : ℕ) {p q : List ℕ} {x y : ℕ} → k < length (first_chunks 8 (length a / 8) a) → length a ≡ 32 → length b ≡ 32 → Bytes a → Bytes b
    → p ≡ get_or (first_chunks 8 (length a / 8) a) k [] → q ≡ get_or (first_chunks 8 (length b / 8) b) k []
    → x ≡ from_be_bytes w64 p → y ≡ from_be_bytes w64 q → byte_order a b ≡ byte_order (drop (k * 8) a) (drop (k * 8) b)
    → byte_order a b ≡ decided x y (byte_order (drop ((k + 1) * 8) a) (drop ((k + 1) * 8) b))
turn a b k h la lb ba bb ep eq ex ey so_far =
    let e : (k + 1) * 8 ≡ k * 8 + 8 = omega arith in
    let few : k < 4 = omega (arith, h, la, chunks_length 8 (length a / 8) a) in
    rw e (so_far ∙ word_turn a b (k * 8) (omega arith) (omega arith) ba bb (piece a k few la ep ex) (piece b k few lb eq ey))

-- no word is left
none_left : (a b : List ℕ) (k : ℕ) → 4 ≤ k → length a ≡ 32 → length b ≡ 32 → byte_order (drop (k * 8) a) (drop (k * 8) b) ≡ byte_order [] []
none_left a b k h la lb =
    let p : length a ≤ k * 8 = omega arith in
    let q : length b ≤ k * 8 = omega arith in
    rw (drop_of_length-le a p, drop_of_length-le b q)

pub loop-p-init : goal.loop-p-init
loop-p-init c = refl

pub returns-then-x-y : goal.returns-then-x-y
returns-then-x-y c =
    let a = c.args.a.now in
    let b = c.args.b.now in
    let ha : c.into_iter-p-iterator.result.a.rest.now ≡ first_chunks 8 (length a / 8) a = search rules in
    let hb : c.into_iter-p-iterator.result.b.rest.now ≡ first_chunks 8 (length b / 8) b = search rules in
    let t = zip_turn (first_chunks 8 (length a / 8) a) (first_chunks 8 (length b / 8) b) c.loop-p.yielded c.into_iter-p-iterator.result c.loop-p.p-iterator c.next.new.self c.next.result ha hb c.loop-p.yielded_by _ c.in-Some.is c.next.ensures.steps in
    let on = turn a b (length c.loop-p.yielded) t.0 c.told-a c.told-b c.fits-a c.fits-b (t.2 []) (t.3 []) c.from_be_bytes-x.ensures c.from_be_bytes-y.ensures c.loop-p.invariant in
    c.cmp.ensures ∙ decided_apart _ c.if-x-y.true ∙ sym on

pub loop-p-preserved : goal.loop-p-preserved
loop-p-preserved c =
    let a = c.args.a.now in
    let b = c.args.b.now in
    let ha : c.into_iter-p-iterator.result.a.rest.now ≡ first_chunks 8 (length a / 8) a = search rules in
    let hb : c.into_iter-p-iterator.result.b.rest.now ≡ first_chunks 8 (length b / 8) b = search rules in
    let t = zip_turn (first_chunks 8 (length a / 8) a) (first_chunks 8 (length b / 8) b) c.loop-p.yielded c.into_iter-p-iterator.result c.loop-p.p-iterator c.next.new.self c.next.result ha hb c.loop-p.yielded_by _ c.in-Some.is c.next.ensures.steps in
    let on = turn a b (length c.loop-p.yielded) t.0 c.told-a c.told-b c.fits-a c.fits-b (t.2 []) (t.3 []) c.from_be_bytes-x.ensures c.from_be_bytes-y.ensures c.loop-p.invariant in
    on ∙ decided_level _ c.if-x-y.false
    ∙ ap (λ (n : ℕ). byte_order (drop (n * 8) a) (drop (n * 8) b)) (sym (length-append c.loop-p.yielded _))

pub returns : goal.returns
unfolding byte_order
returns c =
    let a = c.args.a.now in
    let b = c.args.b.now in
    let ha : c.into_iter-p-iterator.result.a.rest.now ≡ first_chunks 8 (length a / 8) a = search rules in
    let hb : c.into_iter-p-iterator.result.b.rest.now ≡ first_chunks 8 (length b / 8) b = search rules in
    let end = zip_end (first_chunks 8 (length a / 8) a) (first_chunks 8 (length b / 8) b) c.loop-p.yielded c.into_iter-p-iterator.result c.loop-p.p-iterator c.next.new.self c.next.result ha hb c.loop-p.yielded_by c.in-None.is c.next.ensures.steps in
    let all : 4 ≤ length c.loop-p.yielded = omega (arith, c.told-a, c.told-b, chunks_length 8 (length a / 8) a, chunks_length 8 (length b / 8) b) in
    sym (c.loop-p.invariant ∙ none_left a b (length c.loop-p.yielded) all c.told-a c.told-b)
