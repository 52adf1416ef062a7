-- Messages that are written one after the other.
use Rattle.std.proofs.Common.{◌≡◌, ℕ, List, [], ◌∷◌, ◌++◌, Option, Result, Ok, Err, append-nil, length, sym, subst}
use Rattle.std.proofs.KnownBytes.{Appends-kept, Appends-nil, Appends-trans}
use Rattle.std.proofs.lemmas.Grind.{flat_map-append}
use Rattle.std.specs.Io.KnownBytes.{Appends, Keeps}
use Rattle.std.specs.List.{flat_map}
use Rattle.std.specs.Prelude.{OnOk, codes, decimal}
use Rattle.sc_language_server.specs.Messages.{WritesMessages, framed}

pub writes_none : (a : Option (List ℕ)) → WritesMessages a a
writes_none a = record { bodies = []; written = Appends-nil a }

pub writes_one : (a b : Option (List ℕ)) (body : List ℕ) → Appends a b (framed body) → WritesMessages a b
writes_one a b body p =
    record { bodies = body ∷ []; written = subst (λ bytes. Appends a b bytes) (sym (append-nil (framed body))) p }

pub writes_more : (a b c : Option (List ℕ)) → WritesMessages a b → WritesMessages b c → WritesMessages a c
writes_more a b c p q =
    record {
      bodies = p.bodies ++ q.bodies;
      written = subst (λ bytes. Appends a c bytes) (sym (flat_map-append framed p.bodies q.bodies)) (Appends-trans a b c _ _ p.written q.written);
    }

pub writes_after : {T E : Type 0} (a b c : Option (List ℕ)) (r : Result T E) → WritesMessages a b → OnOk r (WritesMessages b c) → OnOk r (WritesMessages a c)
writes_after a b c (Ok done) p q = writes_more a b c p q
writes_after a b c (Err why) p q = tt

-- The parts of a message are written one after the other.
pub framed_by : {T E : Type 0} (a b c d e f : Option (List ℕ)) (digits body : List ℕ) (r : Result T E) → digits ≡ decimal (length body)
    → Appends a b (codes "Content-Length: ") → Appends b c digits → Appends c d (codes "\r\n\r\n") → Appends d e body
    → Keeps e f → OnOk r (Appends a f (framed body))
framed_by a b c d e f digits body (Err why) is one two three four same = tt
framed_by a b c d e f digits body (Ok done) is one two three four same =
    subst (λ ds. Appends a f (codes "Content-Length: " ++ (ds ++ (codes "\r\n\r\n" ++ body)))) is
    (Appends-kept a e f _ (Appends-trans a b e _ _ one (Appends-trans b c e _ _ two (Appends-trans c d e _ _ three four))) same)
