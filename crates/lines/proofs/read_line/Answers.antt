-- `lines::read_line` meets its contract: its tests are the definition's, in their order.
-- Assumes nothing.
use Rattle.std.proofs.Common.{◌/◌, length, sym, ap, ◌∙◌}
use Rattle.std.proofs.lemmas.Result.{err_from_is_err_and}
use Rattle.laws.specs.Lists.{nth, tab_from}
use Rattle.lines.specs.Frame.{ten_bytes}
use Rattle.lines.specs.Refusal.{frame_refusal}
use Rattle.lines.proofs.LineLaws.{stripped, not_stripped}
use Rattle.lines.proofs.RefusalLaws.{not_ended, empty_line, not_pairs, whole_line, some_of, none_of}
use Rattle.lines.proofs.read_line.Goals as goal

pub returns-in_err-digits-clause-refusal : goal.returns-in_err-digits-clause-refusal
returns-in_err-digits-clause-refusal c =
    let p = err_from_is_err_and c.from_residual.result c.from_residual.ensures.1 in
    let none = none_of c.strip_suffix.result _ _ c.in_err-digits.ensures.value in
    rw (p.1, p.2, none.1, not_stripped c.args.line.now _ none.0 c.strip_suffix.ensures.cases) (sym (not_ended c.args.line.now))

pub returns-then-is_empty-clause-refusal : goal.returns-then-is_empty-clause-refusal
returns-then-is_empty-clause-refusal c =
    let line = stripped c.args.line.now _ _ (some_of _ _ _ c.in_ok-digits.ensures.value) c.strip_suffix.ensures.cases in
    rw line (sym (empty_line c.in_ok-digits.digits.now c.if-is_empty.ensures))

pub returns-then-not-paired-clause-refusal : goal.returns-then-not-paired-clause-refusal
returns-then-not-paired-clause-refusal c =
    let line = stripped c.args.line.now _ _ (some_of _ _ _ c.in_ok-digits.ensures.value) c.strip_suffix.ensures.cases in
    rw line (sym (not_pairs c.in_ok-digits.digits.now (sym c.are_pairs-paired.ensures ∙ c.if-not-paired.true)))

pub returns-in_err-kind-clause-refusal : goal.returns-in_err-kind-clause-refusal
unfolding ten_bytes tab_from
returns-in_err-kind-clause-refusal c =
    let line = stripped c.args.line.now _ _ (some_of _ _ _ c.in_ok-digits.ensures.value) c.strip_suffix.ensures.cases in
    let p = err_from_is_err_and c.from_residual-in_err-kind.result c.from_residual-in_err-kind.ensures.1 in
    rw (p.1, p.2, line) (
    c.in_err-kind.ensures.refusal ∙ ap (λ f. frame_refusal (nth f 0) (length c.in_ok-digits.digits.now / 2)) c.frame_at-bytes.ensures
    ∙ whole_line c.in_ok-digits.digits.now c.if-is_empty.ensures (sym c.are_pairs-paired.ensures ∙ c.if-not-paired.false)
    )

pub returns-clause-refusal : goal.returns-clause-refusal
unfolding ten_bytes tab_from
returns-clause-refusal c =
    let line = stripped c.args.line.now _ _ (some_of _ _ _ c.in_ok-digits.ensures.value) c.strip_suffix.ensures.cases in
    rw line (
    c.in_ok-kind.ensures.refusal ∙ ap (λ f. frame_refusal (nth f 0) (length c.in_ok-digits.digits.now / 2)) c.frame_at-bytes.ensures
    ∙ whole_line c.in_ok-digits.digits.now c.if-is_empty.ensures (sym c.are_pairs-paired.ensures ∙ c.if-not-paired.false)
    )

pub returns-clause-frame : goal.returns-clause-frame
unfolding ten_bytes tab_from
returns-clause-frame c =
    let line = stripped c.args.line.now _ _ (some_of _ _ _ c.in_ok-digits.ensures.value) c.strip_suffix.ensures.cases in
    rw line (c.in_ok-kind.ensures.kind ∙ ap (λ f. nth f 0) c.frame_at-bytes.ensures, c.frame_at-bytes.ensures)
