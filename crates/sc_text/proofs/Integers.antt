-- How far an integer goes, and where one stands.
use Rattle.std.proofs.Common.{◌≡◌, ℕ, suc, ◌+◌, Bool, true, false, List, [], ◌∷◌, ◌++◌, length, refl, ap, sym, ◌∙◌, subst, append_assoc, length-append, add-zero, arith}
use Rattle.std.specs.Prelude.{◌&&◌}
use Rattle.std.specs.List.{list_all}
use Rattle.sc_text.specs.Characters.{is_digit, is_underscore, digit_follows}
use Rattle.sc_text.specs.Spelling.{IsInteger, last_digit, digit}
use Rattle.sc_text.specs.Reading.Lengths.{integer_end}
use Rattle.sc_text.proofs.Classes.{choose_true, choose_false, and_true, eq_true, chosen}

underscores_end : (us : List ℕ) (at end : ℕ) (text : List ℕ) → list_all is_underscore us ≡ true → integer_end at end (us ++ text) ≡ integer_end (at + length us) end text
underscores_end [] at end text all = ap (λ (n : ℕ). integer_end n end text) (sym (add-zero at))
underscores_end (c ∷ us) at end text all =
    let h = and_true (is_underscore c) (list_all is_underscore us) all in
    let n : at + 1 + length us ≡ at + suc (length us) = omega arith in
    choose_false _ _ _ (underscore_not_digit c h.0) ∙ choose_true _ _ _ h.0 ∙ underscores_end us (at + 1) end text h.1 ∙ ap (λ (n : ℕ). integer_end n end text) n
  where
    underscore_not_digit : (c : ℕ) → is_underscore c ≡ true → is_digit c ≡ false
    underscore_not_digit c e = ap is_digit (eq_true c 95 e)

stopped_more : (c at end : ℕ) (cs : List ℕ) (b : Bool) → is_underscore c ≡ b → digit_follows (c ∷ cs) ≡ false →
    ((at' : ℕ) → digit_follows cs ≡ false → integer_end at' end cs ≡ end) → integer_end at end (c ∷ cs) ≡ end
stopped_more c at end cs true e stops more =
    choose_false _ _ _ (ap is_digit (eq_true c 95 e)) ∙ choose_true _ _ _ e ∙ more (at + 1) (sym (choose_true _ _ _ e) ∙ stops)
stopped_more c at end cs false e stops more = choose_false _ _ _ (sym (choose_false _ _ _ e) ∙ stops) ∙ choose_false _ _ _ e

stopped_end : (rest : List ℕ) (at end : ℕ) → digit_follows rest ≡ false → integer_end at end rest ≡ end
stopped_end [] at end stops = refl
stopped_end (c ∷ cs) at end stops = stopped_more c at end cs (is_underscore c) refl stops (λ at' e. stopped_end cs at' end e)

pub integer_end-split : {ds : List ℕ} → IsInteger ds → (rest : List ℕ) → digit_follows rest ≡ false → (at end : ℕ) → integer_end at end (ds ++ rest) ≡ at + length ds
integer_end-split (last_digit {d} e) rest stops at end = choose_true _ _ _ e ∙ stopped_end rest (at + 1) (at + 1) stops
integer_end-split (digit {d} us {ds} e all more) rest stops at end =
    let n : at + 1 + length us + length ds ≡ at + length (d ∷ (us ++ ds)) = omega (arith, length-append us ds) in
    choose_true _ _ _ e ∙ ap (integer_end (at + 1) (at + 1)) (append_assoc us ds rest) ∙ underscores_end us (at + 1) (at + 1) (ds ++ rest) all
    ∙ integer_end-split more rest stops (at + 1 + length us) (at + 1) ∙ n

-- ---- where one stands

-- digits that end at this number of bytes, and go on no further
pub record IsNumber (at : ℕ) (text : List ℕ) (end : ℕ) : Type 0 where
  pub digits : List ℕ
  pub rest : List ℕ
  pub split : text ≡ digits ++ rest
  pub integer : IsInteger digits
  pub stops : digit_follows rest ≡ false
  pub count : end ≡ at + length digits

-- what goes on behind a digit: nothing, or underscores and digits
data Tail (at end : ℕ) (text : List ℕ) (r : ℕ) : Type 0 where
  stopped : digit_follows text ≡ false → r ≡ end → Tail at end text r
  further : (us ds rest : List ℕ) → text ≡ us ++ (ds ++ rest) → list_all is_underscore us ≡ true → IsInteger ds → digit_follows rest ≡ false →
      r ≡ at + length us + length ds → Tail at end text r

digit_number : (at c r : ℕ) (cs : List ℕ) → is_digit c ≡ true → Tail (at + 1) (at + 1) cs r → IsNumber at (c ∷ cs) r
digit_number at c r cs d (stopped stops e) = record { digits = c ∷ []; rest = cs; split = refl; integer = last_digit d; stops = stops; count = omega (arith, e) }
digit_number at c r cs d (further us ds rest split all more stops e) = record {
  digits = c ∷ (us ++ ds);
  rest = rest;
  split = ap (λ (l : List ℕ). c ∷ l) (split ∙ sym (append_assoc us ds rest));
  integer = digit us d all more;
  stops = stops;
  count = omega (arith, e, length-append us ds);
}

digit_tail : (at end : ℕ) (text : List ℕ) (r : ℕ) → IsNumber at text r → Tail at end text r
digit_tail at end text r h = further [] h.digits h.rest h.split refl h.integer h.stops (omega (arith, h.count))

underscore_tail : (at end c r : ℕ) (cs : List ℕ) → is_underscore c ≡ true → Tail (at + 1) end cs r → Tail at end (c ∷ cs) r
underscore_tail at end c r cs u (stopped stops e) = stopped (choose_true _ _ _ u ∙ stops) e
underscore_tail at end c r cs u (further us ds rest split all more stops e) =
    further (c ∷ us) ds rest (ap (λ (l : List ℕ). c ∷ l) split) (ap (λ (b : Bool). b && list_all is_underscore us) u ∙ all) more stops (omega (arith, e))

tail_sound : (text : List ℕ) (at end : ℕ) → Tail at end text (integer_end at end text)
tail_sound [] at end = stopped refl refl
tail_sound (c ∷ cs) at end =
    chosen (Tail at end (c ∷ cs)) (is_digit c) _ _ (λ d. digit_tail at end (c ∷ cs) _ (digit_number at c _ cs d (tail_sound cs (at + 1) (at + 1))))
    (λ nd. chosen (Tail at end (c ∷ cs)) (is_underscore c) _ _ (λ u. underscore_tail at end c _ cs u (tail_sound cs (at + 1) end))
    (λ nu. stopped (choose_false _ _ _ nu ∙ nd) refl))

pub number_sound : (c : ℕ) (cs : List ℕ) → is_digit c ≡ true → IsNumber 0 (c ∷ cs) (integer_end 0 0 (c ∷ cs))
number_sound c cs d = subst (IsNumber 0 (c ∷ cs)) (sym (choose_true _ _ _ d)) (digit_number 0 c _ cs d (tail_sound cs (0 + 1) (0 + 1)))
