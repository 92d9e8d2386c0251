use Rattle.std.proofs.Common.{ℕ, List, ap, ◌∙◌}
use Rattle.std.specs.Option.{is_some}
use Rattle.octets.specs.Parts.{same}
use Rattle.text.specs.Words.{ascii}
use Rattle.packing.specs.Decimals.{is_number, is_length}
use Rattle.packing.proofs.DecimalLaws.{length_asked}
use Rattle.packing.proofs.FloatLaws.{number_asked}
use Rattle.packing.proofs.VerdictLaws.{fit_number, fit_word, fit_length}
use Rattle.packing.proofs.is_fit.Goals as goal

pub returns-then-k-kind : goal.returns-then-k-kind
returns-then-k-kind c = c.is_some.ensures ∙ ap is_some c.number_in.ensures ∙ number_asked _ ∙ ap is_number c.word-w.ensures ∙ fit_number _ _ _ c.if-k-kind.true

pub returns-then-k-kind-2 : goal.returns-then-k-kind-2
returns-then-k-kind-2 c = c.same.ensures ∙ ap (λ (w : List ℕ). same w (ascii "cases")) c.word-w.ensures ∙ fit_word _ _ _ c.if-k-kind-2.true

pub returns : goal.returns
returns c = c.is_some-2.ensures ∙ ap is_some c.length_in.ensures ∙ length_asked _ ∙ ap is_length c.word-w.ensures ∙ fit_length _ _ _ c.if-k-kind.false c.if-k-kind-2.false
