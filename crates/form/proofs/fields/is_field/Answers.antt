use mathlib.Core.Bool.{not}
use mathlib.Core.Path.{sym, ap, ap₂, ◌∙◌}
use mathlib.Core.List.{List}
use Prim.Native.Nat.{ℕ}
use native.Mathlib.Omega.{arith}
use borrow.Author.Tests.{not-true, not-false}
use Rattle.octets.specs.Parts.{same}
use Rattle.form.specs.Fields.{accepts, field_at}
use Rattle.form.proofs.FieldLaws.{no_field, not_named, by_value}
use Rattle.form.proofs.fields.is_field.Goals as goal
use Rattle.form.proofs.fields.is_field.Goals.{then-k-ge-COUNT-via-then-k-ge-COUNT, then-k-ge-COUNT-via-else-k-ge-COUNT+then-not-is_named}

pub returns-then-k-ge-COUNT : goal.returns-then-k-ge-COUNT
returns-then-k-ge-COUNT c =
    elim c.then-k-ge-COUNT.branch [
      | then-k-ge-COUNT-via-then-k-ge-COUNT w ↦ sym (no_field _ _ w.if-k-ge-COUNT.true)
      | then-k-ge-COUNT-via-else-k-ge-COUNT+then-not-is_named w ↦
          let f = c.args.k in
          let e = ap (λ (t : List ℕ). same t (field_at f).name) w.word.ensures in
          sym (not_named f _ (omega arith) (sym (w.is_named.ensures ∙ e) ∙ not-true _ (ap not w.if-not-is_named.true)))
    ]

pub returns : goal.returns
returns c =
    let f = c.args.k in
    let e = ap (λ (t : List ℕ). same t (field_at f).name) c.word.ensures in
    c.accepts.ensures ∙ ap₂ accepts c.kind_of.ensures (c.text.ensures ∙ c.put_value.ensures.text)
    ∙ sym (by_value f _ (omega arith) (sym (c.is_named.ensures ∙ e) ∙ not-false _ (ap not c.if-not-is_named.false)))
