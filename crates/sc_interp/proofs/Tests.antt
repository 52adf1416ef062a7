-- Object tests in memory.
use Rattle.std.proofs.Common.{◌≡◌, ℕ, ◌∷◌, Bool, sym, ap, ◌∙◌}
use Rattle.std.specs.Option.{option_map}
use Rattle.sc_tree.specs.Plain.{System}
use Rattle.sc_code.specs.declared.program.Image.{Image}
use Rattle.sc_code.specs.declared.site.ObjectTest as test
use Rattle.sc_code.specs.Machine.{Code, State, Hop, binds_if, is_tested, hop_popped}
use Rattle.sc_code.specs.View.{test_of, tested_of}
use Rattle.sc_region.specs.declared.value.Value as code
use Rattle.sc_region.specs.declared.value.Reference as reference
use Rattle.sc_region.specs.Frames.{PlainActivation}
use Rattle.sc_interp.specs.declared.hops.Hop as outcome
use Rattle.sc_interp.specs.Serving.{TellsConformance}
use Rattle.sc_interp.specs.Values.{value_of, values_of, reference_of}
use Rattle.sc_interp.specs.Standing.{state_of, Passes, Tested}

-- one more operand first
pub put_first : (count : ℕ) (v : code.Value) (does : Code → State → Hop) (r : outcome.Hop) (a b d : PlainActivation) → b ≡ record a { operands = record a.operands { values = v ∷ a.operands.values } }
    → Passes count does r b d → Passes count (λ c f. does c (record f { values = value_of v ∷ f.values })) r a d
put_first count v does r a b d e next p s me c objects fits =
    ap (λ (g : PlainActivation). does c (state_of objects g)) (sym e)
    ∙ next p s me c objects (record { many = fits.many; depth = ap (λ (g : PlainActivation). g.operands.depth) e ∙ fits.depth })

-- the answer is known
pub bind_by : (count slot : ℕ) (v : code.Value) (is b : Bool) (r : outcome.Hop) (a d : PlainActivation) → is ≡ b
    → Passes count (λ c f. binds_if b c slot (value_of v) f) r a d → Passes count (λ c f. binds_if is c slot (value_of v) f) r a d
bind_by count slot v is b r a d e next p s me c objects fits =
    ap (λ i. binds_if i c slot (value_of v) (state_of objects a)) e ∙ next p s me c objects fits

-- the value that is tested is popped
pub test_popped : (p : Image) (me : reference.Reference) (count : ℕ) (t : test.ObjectTest) (v : code.Value) (is : Bool) (h : outcome.Hop) (a b d : PlainActivation)
    → a.operands.values ≡ v ∷ b.operands.values → b ≡ record a { operands = record a.operands { values = b.operands.values } }
    → ((s : System) → TellsConformance s p → is ≡ is_tested s me.handler (values_of b.slots) (value_of v) (option_map tested_of t.tested))
    → Passes count (λ c f. binds_if is c t.slot (value_of v) f) h b d → Tested p me count t h a d
test_popped p me count t v is h a b d e same tested next s c objects serves fits =
    ap (λ vs. hop_popped s c (reference_of me) (test_of t) (values_of vs) (record (state_of objects a) { values = values_of vs })) e
    ∙ ap (λ (g : PlainActivation). binds_if (is_tested s me.handler (values_of g.slots) (value_of v) (option_map tested_of t.tested)) c t.slot (value_of v) (state_of objects g)) (sym same)
    ∙ ap (λ i. binds_if i c t.slot (value_of v) (state_of objects b)) (sym (tested s serves))
    ∙ next p s (reference_of me) c objects (record { many = fits.many; depth = ap (λ (g : PlainActivation). g.operands.depth) same ∙ fits.depth })
