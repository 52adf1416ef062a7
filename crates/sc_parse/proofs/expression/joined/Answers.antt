use Rattle.std.proofs.Common.{◌≡◌, ℕ, ◌∙◌, ap}
use Rattle.sc_tree.proofs.ViewLemmas.{expr_of-binary}
use Rattle.sc_tree.specs.declared.expression.Expr.{Expr}
use Rattle.sc_text.specs.declared.token.Span.{Span}
use Rattle.std.specs.declared.boxed.Box.{Box}
use Rattle.std.specs.declared.alloc.Global.{Global}
use Rattle.sc_tree.specs.declared.expression.BinaryOperator.{BinaryOperator}
use Rattle.sc_tree.specs.declared.expression.Expr.TheVariants as variants
use Rattle.sc_tree.specs.Plain as plain
use Rattle.sc_tree.specs.Properties.{span_of}
use Rattle.sc_parse.specs.Reading.Expressions.{across}
use Rattle.sc_parse.specs.Reading.Reads.{expr_in}
use Rattle.sc_parse.proofs.expression.joined.Goals as goal

-- the tree of an operator between two operands
binary_is : (op : BinaryOperator) (a b : Expr) (p q : Box Expr Global) (start end : ℕ) → start ≡ (span_of (expr_in a)).start → end ≡ (span_of (expr_in b)).end → p.value ≡ a → q.value ≡ b →
    expr_in (variants.Binary (record { start = start; end = end }) op p q) ≡ plain.Binary (across (expr_in a) (expr_in b)) op (expr_in a) (expr_in b)
binary_is op a b p q start end s e u v =
    let k = across (expr_in a) (expr_in b) in
    rw (s, e) (expr_of-binary k op p q ∙ ap (λ (x : Expr). plain.Binary k op (expr_in x) (expr_in q.value)) u ∙ ap (λ (y : Expr). plain.Binary k op (expr_in a) (expr_in y)) v)

pub returns : goal.returns
returns c = binary_is _ _ _ _ _ _ _ (ap (λ (s : Span). s.start) c.span.ensures) (ap (λ (s : Span). s.end) c.span-2.ensures) c.in_ok-left.ensures.0 c.in_ok-left.ensures.1
