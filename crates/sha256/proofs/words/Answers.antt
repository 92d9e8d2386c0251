-- After i turns the array of 64 has the first i words of the block and zeros behind them; it stops at 16, where the schedule goes on.
use mathlib.Core.Path.{◌≡◌, refl, sym, ap, ◌∙◌}
use mathlib.Core.List.{List, []}
use Prim.Native.Nat.{ℕ, ◌*◌}
use native.Mathlib.Omega.{arith}
use lib.ListN.{get_or}
use Rattle.std.specs.Int.{w32, from_be_bytes}
use Rattle.octets.specs.Parts.{listed, field}
use Rattle.octets.proofs.ChunkLaws.{chunk_at}
use Rattle.octets.proofs.Filling.{next}
use Rattle.octets.proofs.PartLaws.{field_part, field_length}
use Rattle.octets.proofs.WordLaws.{big_from}
use Rattle.sha256.specs.Compression.{word_at}
use Rattle.sha256.proofs.words.Goals as goal

pub loop-i-init : goal.loop-i-init
unfolding listed
loop-i-init c = record { long = refl; made = refl }

pub loop-i-preserved : goal.loop-i-preserved
unfolding word_at
loop-i-preserved c =
    let b = c.args.b.now in
    let i = c.loop-i.i in
    let n : i * 4 ≡ 4 * i = omega arith in
    let bytes = ap (λ (l : List (List ℕ)). get_or l i []) c.as_chunks.ensures.front ∙ chunk_at 4 _ i b [] (omega arith) ∙ sym (field_part (i * 4) 4 b (omega arith)) ∙ ap (λ (k : ℕ). field k 4 b) n in
    let word = c.from_be_bytes.ensures ∙ ap (from_be_bytes w32) bytes ∙ big_from w32 _ (field_length (4 * i) 4 b) in
    next _ 64 i c.loop-i.w _ (omega arith) c.loop-i.invariant word

pub returns : goal.returns
returns c =
    let e : c.loop-i.i ≡ 16 = omega arith in
    rw e at c.loop-i.invariant.made
