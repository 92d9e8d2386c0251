-- The file holds the draft, then the draft with its old notes worked out, which are asked, then the case; the last copy puts that over the whole buffer.
use Prim.Native.Nat.{ℕ}
use mathlib.Core.Path.{◌≡◌, sym, ap, ◌∙◌}
use mathlib.Core.List.{List}
use lib.ListN.{length}
use Rattle.octets.specs.Parts.{pasted}
use Rattle.refusals.specs.Rules.{first, rules_in, is_accepted}
use Rattle.refusals.proofs.RuleLaws.{never_accepted, passed_on}
use Rattle.statement.specs.CaseRefusals.{h_sig_of}
use Rattle.desk.specs.Drafts.{with_old_notes, with_new_notes, written, notes_refusals}
use Rattle.desk.proofs.WrittenLaws.{copied, written_length, is_kept}
use Rattle.desk.proofs.write_checked.Goals as goal

-- what is asked is the draft with its old notes worked out
asked : (draft file copied_in worked_out : List ℕ) → worked_out ≡ with_old_notes copied_in → copied_in ≡ pasted 0 draft file → length file ≡ length draft → worked_out ≡ with_old_notes draft
asked draft file copied_in worked_out e f l = e ∙ ap with_old_notes (f ∙ copied draft file (sym l))

pub returns-in_err-notes : goal.returns-in_err-notes
returns-in_err-notes c =
    let draft : List ℕ = c.args.draft.now in
    let here = asked draft _ _ _ c.work_out_old_notes.ensures c.copy_in.ensures.dst_after c.requires.0 in
    let told = passed_on _ _ c.from_residual.ensures in
    record {
      value = told ∙ c.in_err-notes.ensures ∙ ap (λ (f : List ℕ). first (rules_in (notes_refusals draft f))) here;
      buffer_after = is_kept _ _ _ (ap is_accepted told ∙ never_accepted _);
    }

pub returns : goal.returns
unfolding written
returns c =
    let draft : List ℕ = c.args.draft.now in
    let here = asked draft _ _ _ c.work_out_old_notes.ensures c.copy_in.ensures.dst_after c.requires.0 in
    let there = c.work_out_new_notes.ensures ∙ ap (λ (f : List ℕ). with_new_notes (h_sig_of f) f) here in
    record {
      value = c.in_ok-notes.ensures ∙ ap (λ (f : List ℕ). first (rules_in (notes_refusals draft f))) here;
      buffer_after = c.copy_in-2.ensures.dst_after ∙ ap (λ (f : List ℕ). pasted 0 f c.args.buffer.now) there ∙ copied (written draft) _ (written_length draft ∙ sym c.requires.1);
    }
