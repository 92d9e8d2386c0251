-- After i turns the state is the definition's after 8 i rounds, since each turn makes eight; after 8 turns these are all 64.
use mathlib.Core.Path.{◌≡◌, refl, sym, ap, ap₂, ◌∙◌}
use Prim.Native.Nat.{ℕ, ◌*◌, ◌/◌}
use mathlib.Core.List.{List, []}
use native.Mathlib.Omega.{arith}
use borrow.Author.Rules.{rules}
use lib.ListN.{length, length-append, take, drop}
use Rattle.std.specs.Simd.{first_chunks}
use Rattle.std.proofs.lemmas.Slice.Zip.{zip_turn, zip_end}
use Rattle.octets.proofs.ChunkLaws.{chunk_at, chunks_length}
use Rattle.sha256.specs.Compression.{k_list, rounds}
use Rattle.sha256.proofs.Turns.{eight_more}
use Rattle.sha256.proofs.rounds.Goals as goal

pub loop-k-init : goal.loop-k-init
unfolding rounds
loop-k-init c = refl

pub loop-k-preserved : goal.loop-k-preserved
unfolding k_list
loop-k-preserved c =
    let w = c.args.w.now in
    let i = length c.loop-k.yielded in
    let hk : c.into_iter-k-iterator.result.a.rest.now ≡ first_chunks 8 8 k_list = search rules in
    let hw : c.into_iter-k-iterator.result.b.rest.now ≡ first_chunks 8 (length w / 8) w = search rules in
    let turn = zip_turn (first_chunks 8 8 k_list) (first_chunks 8 (length w / 8) w) c.loop-k.yielded c.into_iter-k-iterator.result c.loop-k.k-iterator c.next.new.self c.next.result hk hw c.loop-k.yielded_by _ c.in-Some.is c.next.ensures.steps in
    let k8 : c.in-Some.k.now ≡ take 8 (drop (i * 8) k_list) = turn.2 [] ∙ chunk_at 8 8 i k_list [] turn.0 in
    let w8 : c.in-Some.w.now ≡ take 8 (drop (i * 8) w) = turn.3 [] ∙ chunk_at 8 (length w / 8) i w [] (omega arith) in
    eight_more i k_list w c.args.s c.loop-k.t c.eight-t.result c.loop-k.invariant (c.eight-t.ensures ∙ ap₂ (λ (x y : List ℕ). rounds 8 x y c.loop-k.t) k8 w8)
    ∙ ap (λ (n : ℕ). rounds (n * 8) k_list w c.args.s) (sym (length-append c.loop-k.yielded _))

pub returns : goal.returns
unfolding k_list
returns c =
    let w = c.args.w.now in
    let hk : c.into_iter-k-iterator.result.a.rest.now ≡ first_chunks 8 8 k_list = search rules in
    let hw : c.into_iter-k-iterator.result.b.rest.now ≡ first_chunks 8 (length w / 8) w = search rules in
    let end = zip_end (first_chunks 8 8 k_list) (first_chunks 8 (length w / 8) w) c.loop-k.yielded c.into_iter-k-iterator.result c.loop-k.k-iterator c.next.new.self c.next.result hk hw c.loop-k.yielded_by c.in-None.is c.next.ensures.steps in
    let i : length c.loop-k.yielded ≡ 8 = omega (arith, chunks_length 8 8 k_list, chunks_length 8 (length w / 8) w) in
    c.loop-k.invariant ∙ ap (λ (n : ℕ). rounds (n * 8) k_list w c.args.s) i
