-- Where a manifest string is closed, and what its marks are read as.
use Rattle.std.proofs.Common.{◌≡◌, ℕ, ◌+◌, Bool, true, false, List, [], ◌∷◌, ◌++◌, length, Option, Some, None, Result, Ok, Err, refl, ap, sym, ◌∙◌, subst, append_assoc, append-nil, add-zero, arith}
use Rattle.std.specs.Prelude.{if◌then◌else◌, ◌==◌}
use Rattle.sc_text.specs.declared.fault.LexFault.{LexFault}
use Rattle.sc_text.specs.declared.fault.LexFault.TheVariants as fault
use Rattle.sc_text.specs.Characters.{ends_line, is_plain, escape, quote, percent}
use Rattle.sc_text.specs.Spelling.{span_at, IsManifest, nothing, itself, mark, IsQuoted, empty, plain, pair}
use Rattle.sc_text.specs.Reading.Lengths.{closing}
use Rattle.sc_text.specs.Reading.Front.{with_mark, marks_read}
use Rattle.sc_text.proofs.Classes.{choose_false, eq_true, chosen, plain_is, is_plain_from}

escape_step : (c n v w : ℕ) (o : Option ℕ) → (if c == n then Some w else o) ≡ Some v → ends_line n ≡ false → (o ≡ Some v → ends_line c ≡ false) → ends_line c ≡ false
escape_step c n v w o e in_line more = by_test (c == n) refl e
  where
    by_test : (b : Bool) → (c == n) ≡ b → (if b then Some w else o) ≡ Some v → ends_line c ≡ false
    by_test true d e = ap ends_line (eq_true c n d) ∙ in_line
    by_test false d e = more e

escape_in_line : (c v : ℕ) → escape c ≡ Some v → ends_line c ≡ false
escape_in_line c v e =
    escape_step c 78 v _ _ e refl (λ e. escape_step c 84 v _ _ e refl (λ e. escape_step c percent v _ _ e refl
    (λ e. escape_step c quote v _ _ e refl (λ e. escape_step c 39 v _ _ e refl (λ e. cc)))))

pub quoted_manifest : {cs vs : List ℕ} → IsManifest cs vs → IsQuoted cs
quoted_manifest nothing = empty
quoted_manifest (itself e h) = plain e (quoted_manifest h)
quoted_manifest (mark {c} {v} e h) = pair (escape_in_line c v e) (quoted_manifest h)

pub IsQuoted-append : {cs ds : List ℕ} → IsQuoted cs → IsQuoted ds → IsQuoted (cs ++ ds)
IsQuoted-append empty d = d
IsQuoted-append (plain e h) d = plain e (IsQuoted-append h d)
IsQuoted-append (pair e h) d = pair e (IsQuoted-append h d)

pub closing_complete : {cs : List ℕ} → IsQuoted cs → (at : ℕ) (rest : List ℕ) → closing at false (cs ++ quote ∷ rest) ≡ Some (at + length cs)
closing_complete empty at rest = ap Some (sym (add-zero at))
closing_complete (plain {c} {cs} e h) at rest =
    let p = plain_is c e in
    let n : at + 1 + length cs ≡ at + length (c ∷ cs) = omega arith in
    choose_false _ _ _ p.in_line ∙ choose_false _ _ _ p.not_quote ∙ ap (λ (b : Bool). closing (at + 1) b (cs ++ quote ∷ rest)) p.not_percent
    ∙ closing_complete h (at + 1) rest ∙ ap Some n
closing_complete (pair {c} {cs} e h) at rest =
    let n : at + 1 + 1 + length cs ≡ at + length (percent ∷ c ∷ cs) = omega arith in
    choose_false _ _ _ e ∙ closing_complete h (at + 1 + 1) rest ∙ ap Some n

pub marks_complete : {cs vs : List ℕ} → IsManifest cs vs → (found : List ℕ) (at : ℕ) (rest : List ℕ) →
    marks_read false found at (cs ++ rest) ≡ marks_read false (found ++ vs) (at + length cs) rest
marks_complete nothing found at rest =
    ap (λ (f : List ℕ). marks_read false f at rest) (sym (append-nil found)) ∙ ap (λ (n : ℕ). marks_read false (found ++ []) n rest) (sym (add-zero at))
marks_complete (itself {c} {cs} {vs} e h) found at rest =
    let n : at + 1 + length cs ≡ at + length (c ∷ cs) = omega arith in
    choose_false _ _ _ (plain_is c e).not_percent ∙ marks_complete h (found ++ c ∷ []) (at + 1) rest
    ∙ ap (λ (f : List ℕ). marks_read false f (at + 1 + length cs) rest) (append_assoc found (c ∷ []) vs)
    ∙ ap (λ (n : ℕ). marks_read false (found ++ c ∷ vs) n rest) n
marks_complete (mark {c} {v} {cs} {vs} e h) found at rest =
    let n : at + 2 + length cs ≡ at + length (percent ∷ c ∷ cs) = omega arith in
    ap (with_mark (fault.BadEscape (span_at at 1)) (λ v. marks_read false (found ++ v ∷ []) (at + 2) (cs ++ rest))) e
    ∙ marks_complete h (found ++ v ∷ []) (at + 2) rest
    ∙ ap (λ (f : List ℕ). marks_read false f (at + 2 + length cs) rest) (append_assoc found (v ∷ []) vs)
    ∙ ap (λ (n : ℕ). marks_read false (found ++ v ∷ vs) n rest) n

-- ---- where one is closed

-- what the place of a closing quote says; behind a percent sign the next character belongs to it
data Closes (at : ℕ) (text : List ℕ) (n : ℕ) : Bool → Type 0 where
  closes : (cs rest : List ℕ) → text ≡ cs ++ quote ∷ rest → IsQuoted cs → n ≡ at + length cs → Closes at text n false
  closes_marked : (c : ℕ) (cs rest : List ℕ) → text ≡ c ∷ (cs ++ quote ∷ rest) → ends_line c ≡ false → IsQuoted cs → n ≡ at + 1 + length cs → Closes at text n true

some_same : (m n : ℕ) → Some m ≡ Some n → m ≡ n
some_same m n e = cc

closes_here : (at c n : ℕ) (cs : List ℕ) → (c == quote) ≡ true → Some at ≡ Some n → Closes at (c ∷ cs) n false
closes_here at c n cs q e =
    let same : at ≡ n = some_same at n e in
    closes [] cs (ap (λ (x : ℕ). x ∷ cs) (eq_true c quote q)) empty (omega arith)

closes_further : (at c n : ℕ) (cs : List ℕ) (b : Bool) → ends_line c ≡ false → (c == quote) ≡ false → (c == percent) ≡ b → Closes (at + 1) cs n b → Closes at (c ∷ cs) n false
closes_further at c n cs b l q p (closes_marked d ds rest split in_line quoted e) =
    closes (c ∷ d ∷ ds) rest (ap (λ (x : List ℕ). c ∷ x) split) (subst (λ (x : ℕ). IsQuoted (x ∷ d ∷ ds)) (sym (eq_true c percent p)) (pair in_line quoted)) (omega (arith, e))
closes_further at c n cs b l q p (closes ds rest split quoted e) =
    closes (c ∷ ds) rest (ap (λ (x : List ℕ). c ∷ x) split) (plain (is_plain_from c q p l) quoted) (omega (arith, e))

closes_after : (at c n : ℕ) (cs : List ℕ) → ends_line c ≡ false → Closes (at + 1) cs n false → Closes at (c ∷ cs) n true
closes_after at c n cs l (closes ds rest split quoted e) = closes_marked c ds rest (ap (λ (x : List ℕ). c ∷ x) split) l quoted e

closing_sound : (text : List ℕ) (at n : ℕ) (marked : Bool) → closing at marked text ≡ Some n → Closes at text n marked
closing_sound [] at n marked e = cc
closing_sound (c ∷ cs) at n false e =
    chosen (λ (o : Option ℕ). o ≡ Some n → Closes at (c ∷ cs) n false) (ends_line c) _ _ (λ l e. cc)
    (λ l. chosen (λ (o : Option ℕ). o ≡ Some n → Closes at (c ∷ cs) n false) (c == quote) _ _ (λ q e. closes_here at c n cs q e)
    (λ q e. closes_further at c n cs (c == percent) l q refl (closing_sound cs (at + 1) n (c == percent) e))) e
closing_sound (c ∷ cs) at n true e =
    chosen (λ (o : Option ℕ). o ≡ Some n → Closes at (c ∷ cs) n true) (ends_line c) _ _ (λ l e. cc)
    (λ l e. closes_after at c n cs l (closing_sound cs (at + 1) n false e)) e

-- a text between two quotes
pub record IsClosed (text : List ℕ) (n : ℕ) : Type 0 where
  pub body : List ℕ
  pub rest : List ℕ
  pub split : text ≡ body ++ quote ∷ rest
  pub quoted : IsQuoted body
  pub count : length body ≡ n

pub IsClosed-closing : (text : List ℕ) (n : ℕ) → closing 0 false text ≡ Some n → IsClosed text n
IsClosed-closing text n e = made (closing_sound text 0 n false e)
  where
    made : Closes 0 text n false → IsClosed text n
    made (closes cs rest split quoted f) = record { body = cs; rest = rest; split = split; quoted = quoted; count = omega (arith, f) }

-- where no text is closed, no quote is found
pub closing_none : (text : List ℕ) → ((cs after : List ℕ) → IsQuoted cs → text ≡ cs ++ quote ∷ after → ⊥) → closing 0 false text ≡ None
closing_none text unclosed = by_case (closing 0 false text) refl
  where
    by_case : (o : Option ℕ) → closing 0 false text ≡ o → closing 0 false text ≡ None
    by_case None e = e
    by_case (Some n) e = let h = IsClosed-closing text n e in absurd (unclosed h.body h.rest h.quoted h.split)

-- ---- what marks are read as

-- a text between two quotes has its marks read, or one of them is wrong
pub data Marked (found : List ℕ) (at : ℕ) (text : List ℕ) (r : Result (List ℕ) LexFault) : Type 0 where
  whole : (vs : List ℕ) → IsManifest text vs → r ≡ Ok (found ++ vs) → Marked found at text r
  broken : (cs vs : List ℕ) (c : ℕ) (ds : List ℕ) → text ≡ cs ++ percent ∷ c ∷ ds → IsManifest cs vs → escape c ≡ None → ends_line c ≡ false → IsQuoted ds →
      r ≡ Err (fault.BadEscape (span_at (at + length cs) 1)) → Marked found at text r

marked_itself : (found : List ℕ) (at c : ℕ) (cs : List ℕ) (r : Result (List ℕ) LexFault) → is_plain c ≡ true → Marked (found ++ c ∷ []) (at + 1) cs r → Marked found at (c ∷ cs) r
marked_itself found at c cs r p (whole vs h e) = whole (c ∷ vs) (itself p h) (e ∙ ap Ok (append_assoc found (c ∷ []) vs))
marked_itself found at c cs r p (broken ds vs d rest split h none in_line quoted e) =
    let n : at + 1 + length ds ≡ at + length (c ∷ ds) = omega arith in
    broken (c ∷ ds) (c ∷ vs) d rest (ap (λ (l : List ℕ). c ∷ l) split) (itself p h) none in_line quoted (e ∙ ap (λ (m : ℕ). Err (fault.BadEscape (span_at m 1))) n)

marked_mark : (found : List ℕ) (at c v : ℕ) (cs : List ℕ) (r : Result (List ℕ) LexFault) → escape c ≡ Some v → Marked (found ++ v ∷ []) (at + 2) cs r → Marked found at (percent ∷ c ∷ cs) r
marked_mark found at c v cs r p (whole vs h e) = whole (v ∷ vs) (mark p h) (e ∙ ap Ok (append_assoc found (v ∷ []) vs))
marked_mark found at c v cs r p (broken ds vs d rest split h none in_line quoted e) =
    let n : at + 2 + length ds ≡ at + length (percent ∷ c ∷ ds) = omega arith in
    broken (percent ∷ c ∷ ds) (v ∷ vs) d rest (ap (λ (l : List ℕ). percent ∷ c ∷ l) split) (mark p h) none in_line quoted (e ∙ ap (λ (m : ℕ). Err (fault.BadEscape (span_at m 1))) n)

marked_pair : (found : List ℕ) (at c : ℕ) (cs : List ℕ) (o : Option ℕ) → escape c ≡ o → ends_line c ≡ false → IsQuoted cs →
    ((v : ℕ) → Marked (found ++ v ∷ []) (at + 2) cs (marks_read false (found ++ v ∷ []) (at + 2) cs)) →
    Marked found at (percent ∷ c ∷ cs) (with_mark (fault.BadEscape (span_at at 1)) (λ v. marks_read false (found ++ v ∷ []) (at + 2) cs) o)
marked_pair found at c cs None e l quoted more = broken [] [] c cs refl nothing e l quoted (ap (λ (m : ℕ). Err (fault.BadEscape (span_at m 1))) (sym (add-zero at)))
marked_pair found at c cs (Some v) e l quoted more = marked_mark found at c v cs _ e (more v)

pub marks_sound : {text : List ℕ} → IsQuoted text → (found : List ℕ) (at : ℕ) → Marked found at text (marks_read false found at text)
marks_sound empty found at = whole [] nothing (ap Ok (sym (append-nil found)))
marks_sound (plain {c} {cs} p h) found at =
    subst (Marked found at (c ∷ cs)) (sym (choose_false _ _ _ (plain_is c p).not_percent)) (marked_itself found at c cs _ p (marks_sound h (found ++ c ∷ []) (at + 1)))
marks_sound (pair {c} {cs} l h) found at = marked_pair found at c cs (escape c) refl l h (λ v. marks_sound h (found ++ v ∷ []) (at + 2))
