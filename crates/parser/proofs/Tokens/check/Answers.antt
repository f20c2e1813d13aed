-- A token that is no Newline is where its own newlines end.
use Rattle.std.proofs.Common.{sym, ap, ◌∙◌}
use Rattle.parser.specs.Tokens.{kind_at, view}
use Rattle.parser.proofs.Look.{skip_end, check_line, check_no_line, check_found, check_none}
use Rattle.parser.proofs.Tokens.check.Goals as goal

pub returns-then-here-kind : goal.returns-then-here-kind
returns-then-here-kind c =
    let k = sym c.kind_at-here.ensures ∙ c.if-here-kind.true in
    let s = skip_end (view c.args.self.now) c.args.at (λ e. c.if-kind-eq-NEWLINE.false (sym k ∙ e)) in
    check_found _ _ _ _ s c.if-kind-eq-NEWLINE.false (ap (kind_at _) (sym s) ∙ k)

pub returns-then-here-ne-NEWLINE : goal.returns-then-here-ne-NEWLINE
returns-then-here-ne-NEWLINE c =
    let k = c.kind_at-here.ensures in
    let s = skip_end (view c.args.self.now) c.args.at (λ e. c.if-here-ne-NEWLINE.true (k ∙ e)) in
    check_none _ _ _ c.if-kind-eq-NEWLINE.false (λ e. c.if-here-kind.false (k ∙ ap (kind_at _) s ∙ e))

pub returns-then-kind_at-eq-NEWLINE : goal.returns-then-kind_at-eq-NEWLINE
returns-then-kind_at-eq-NEWLINE c =
    check_line _ _ _ c.if-kind-eq-NEWLINE.true (sym c.kind_at.ensures ∙ c.if-kind_at-eq-NEWLINE.true)

pub returns-else-kind_at-eq-NEWLINE : goal.returns-else-kind_at-eq-NEWLINE
returns-else-kind_at-eq-NEWLINE c =
    check_no_line _ _ _ c.if-kind-eq-NEWLINE.true (λ e. c.if-kind_at-eq-NEWLINE.false (c.kind_at.ensures ∙ e))

pub returns-then-kind_at-kind : goal.returns-then-kind_at-kind
returns-then-kind_at-kind c =
    let s = c.skip-i.ensures in
    check_found _ _ _ _ s c.if-kind-eq-NEWLINE.false (ap (kind_at _) (sym s) ∙ sym c.kind_at-else-kind-eq-NEWLINE.ensures ∙ c.if-kind_at-kind.true)

pub returns-else-kind_at-kind : goal.returns-else-kind_at-kind
returns-else-kind_at-kind c =
    let s = c.skip-i.ensures in
    check_none _ _ _ c.if-kind-eq-NEWLINE.false (λ e. c.if-kind_at-kind.false (c.kind_at-else-kind-eq-NEWLINE.ensures ∙ ap (kind_at _) s ∙ e))
