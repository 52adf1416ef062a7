-- A fault on the way is the fault of the whole.
use Rattle.std.proofs.Common.{◌≡◌, ℕ, Result, Ok, Err, ap, sym, ◌∙◌}
use Rattle.std.specs.Prelude.{IfOk, MatchResult}
use Rattle.sc_text.specs.declared.token.Terminal.{Terminal}
use Rattle.sc_tree.specs.Internal.Reading.Looks.{Fault, Wrong, Deep, ◌>>=◌}
use Rattle.sc_parse.specs.Reading.Looks.{Ahead, Read, expect}
use Rattle.sc_tree.proofs.ReadingSteps.{bind_ok, bind_err}
use Rattle.sc_parse.specs.declared.fault.ParseFault.{ParseFault}
use Rattle.sc_parse.specs.declared.fault.ParseFault.TheVariants as fault
use Rattle.sc_parse.specs.Reading.Reads.{Fails, Reads, Gives}

pub Fails-bind : {A B : Type 0} (a : Result A Fault) (f : A → Result B Fault) (e : ParseFault) → Fails a e → Fails (a >>= f) e
Fails-bind a f (fault.NotInGrammar span) h = bind_err a Wrong f h
Fails-bind a f (fault.TooDeep span) h = bind_err a Deep f h
Fails-bind a f fault.OutOfMemory h = tt

pub Fails-along : {A : Type 0} (a b : Result A Fault) (e : ParseFault) → a ≡ b → Fails b e → Fails a e
Fails-along a b (fault.NotInGrammar span) q h = q ∙ h
Fails-along a b (fault.TooDeep span) q h = q ∙ h
Fails-along a b fault.OutOfMemory q h = tt

-- what one reading gives, another that is the same gives too
pub Reads-along : {A X : Type 0} (view : X → A) (a b : Read A) (r : Result (X × ℕ) ParseFault) (rest : Ahead) → a ≡ b → Reads view b r rest → Reads view a r rest
Reads-along view a b (Ok p) rest q h = q ∙ h
Reads-along view a b (Err e) rest q h = Fails-along a b e q h

pub Gives-along : {A X : Type 0} (view : X → A) (a b : Read A) (r : Result X ParseFault) (rest : Ahead) → a ≡ b → Gives view b r rest → Gives view a r rest
Gives-along view a b (Ok x) rest q h = (h.0, q ∙ h.1)
Gives-along view a b (Err e) rest q h = Fails-along a b e q h

-- what was read, up to a terminal behind it
pub Gives-closed : {A X : Type 0} (view : X → A) (m : Terminal) (ts : Ahead) (x : X) (h : ℕ) (a : Read A) (r : Result X ParseFault) (rest : Ahead) →
    a ≡ (expect m ts >>= λ (q : Ahead). Ok (view x, h, q)) → IfOk r (λ y. y ≡ x) → MatchResult r (λ y. expect m ts ≡ Ok rest) (λ e. Fails (expect m ts) e) → Gives view a r rest
Gives-closed view m ts x h a (Ok y) rest e s w = (h, e ∙ bind_ok _ _ (λ (q : Ahead). Ok (view x, h, q)) w ∙ ap (λ (z : _). Ok (view z, h, rest)) (sym s))
Gives-closed view m ts x h a (Err f) rest e s w = Fails-along _ _ f e (Fails-bind _ _ f w)
