-- The names of a routine's open blocks: what steps leave of them.
use Rattle.std.proofs.Common.{◌≡◌, ◌⊎◌, inl, ⊎_elim, ℕ, zero, suc, Bool, true, false, List, [], ◌∷◌, ◌++◌, take, drop, length, refl, sym, ap, ◌∙◌}
use Rattle.std.specs.Prelude.{if◌then◌else◌}
use Rattle.sc_rules.specs.Names.{is_block}
use Rattle.sc_model.specs.Environments.{Binding, block_values}
use Rattle.sc_model.specs.Tasks.{Task, Choose, Forget, Leave}
use Rattle.sc_machine_laws.specs.states.Stands.{names_in}

-- ---- tidy tasks

abbrev pub IsNoName : Binding → Type 0
IsNoName b = is_block b.role ≡ false

-- what the end of a conditional's part forgets is no name
abbrev pub IsClean : Task → List Binding → Type 0
IsClean (Forget depth) bs = block_values (drop depth bs) ≡ []
IsClean (Choose depth body _ other) bs = block_values (drop depth bs) ≡ []
IsClean task bs = Unit {0}

abbrev pub left_by : Task → List Binding → List Binding
left_by (Leave depth) bs = take depth bs
left_by task bs = bs

-- the ends of blocks forget all names
abbrev pub IsTidy : List Task → List Binding → Type 0
IsTidy [] bs = block_values bs ≡ []
IsTidy (t ∷ ts) bs = IsClean t bs × IsTidy ts (left_by t bs)

-- ---- bindings without a name

add_none : (b : Binding) (bs : List Binding) → IsNoName b → block_values (b ∷ bs) ≡ block_values bs
add_none b bs e = ap (λ (c : Bool). if c then b.value ∷ block_values bs else block_values bs) e

cons_none : (b : Binding) (bs : List Binding) → block_values (b ∷ bs) ≡ [] → IsNoName b × (block_values bs ≡ [])
cons_none b bs e = by (is_block b.role) refl e
  where
    no : {A : Type 0} → b.value ∷ block_values bs ≡ [] → A
    no i = cc

    by : (c : Bool) → is_block b.role ≡ c → (if c then b.value ∷ block_values bs else block_values bs) ≡ []
        → IsNoName b × (block_values bs ≡ [])
    by true is i = no i
    by false is i = (is, i)

take_none : (d : ℕ) (bs : List Binding) → block_values bs ≡ [] → block_values (take d bs) ≡ []
take_none zero bs e = refl
take_none (suc d) [] e = refl
take_none (suc d) (b ∷ bs) e = let is = cons_none b bs e in add_none b (take d bs) is.0 ∙ take_none d bs is.1

drop_none : (d : ℕ) (bs : List Binding) → block_values bs ≡ [] → block_values (drop d bs) ≡ []
drop_none zero bs e = e
drop_none (suc d) [] e = refl
drop_none (suc d) (b ∷ bs) e = drop_none d bs (cons_none b bs e).1

pub none_names : (ts : List Task) (bs : List Binding) (i : ℕ) → block_values bs ≡ [] → names_in ts bs i ≡ []
none_names [] bs i e = refl
none_names (Leave depth ∷ ts) bs zero e = drop_none depth bs e
none_names (Leave depth ∷ ts) bs (suc i) e = none_names ts (take depth bs) i (take_none depth bs e)
none_names (t ∷ ts) bs i e = none_names ts bs i e

pub none_tidy : (ts : List Task) (bs : List Binding) → block_values bs ≡ [] → IsTidy ts bs
none_tidy [] bs e = e
none_tidy (Leave depth ∷ ts) bs e = (tt, none_tidy ts (take depth bs) (take_none depth bs e))
none_tidy (Forget depth ∷ ts) bs e = (drop_none depth bs e, none_tidy ts bs e)
none_tidy (Choose depth body _ other ∷ ts) bs e = (drop_none depth bs e, none_tidy ts bs e)
none_tidy (t ∷ ts) bs e = (tt, none_tidy ts bs e)

-- ---- bindings with the same names

abbrev pub AreAlike : List Binding → List Binding → Type 0
AreAlike [] [] = Unit {0}
AreAlike [] (c ∷ cs) = IsNoName c × AreAlike [] cs
AreAlike (b ∷ bs) [] = IsNoName b × AreAlike bs []
AreAlike (b ∷ bs) (c ∷ cs) = ((b ≡ c) ⊎ (IsNoName b × IsNoName c)) × AreAlike bs cs

pub alike_same : (bs : List Binding) → AreAlike bs bs
alike_same [] = tt
alike_same (b ∷ bs) = (inl refl, alike_same bs)

alike_values : (bs cs : List Binding) → AreAlike bs cs → block_values bs ≡ block_values cs
alike_values [] [] a = refl
alike_values [] (c ∷ cs) a = alike_values [] cs a.1 ∙ sym (add_none c cs a.0)
alike_values (b ∷ bs) [] a = add_none b bs a.0 ∙ alike_values bs [] a.1
alike_values (b ∷ bs) (c ∷ cs) a =
    ⊎_elim (λ (e : b ≡ c). ap (λ l. if is_block b.role then b.value ∷ l else l) (alike_values bs cs a.1) ∙ ap (λ x. block_values (x ∷ cs)) e)
    (λ (e : IsNoName b × IsNoName c). add_none b bs e.0 ∙ alike_values bs cs a.1 ∙ sym (add_none c cs e.1)) a.0

alike_take : (d : ℕ) (bs cs : List Binding) → AreAlike bs cs → AreAlike (take d bs) (take d cs)
alike_take zero bs cs a = tt
alike_take (suc d) [] [] a = tt
alike_take (suc d) [] (c ∷ cs) a = (a.0, alike_take_none d cs a.1)
  where
    alike_take_none : (d : ℕ) (cs : List Binding) → AreAlike [] cs → AreAlike [] (take d cs)
    alike_take_none zero cs a = tt
    alike_take_none (suc d) [] a = tt
    alike_take_none (suc d) (c ∷ cs) a = (a.0, alike_take_none d cs a.1)
alike_take (suc d) (b ∷ bs) [] a = (a.0, alike_take_some d bs a.1)
  where
    alike_take_some : (d : ℕ) (bs : List Binding) → AreAlike bs [] → AreAlike (take d bs) []
    alike_take_some zero bs a = tt
    alike_take_some (suc d) [] a = tt
    alike_take_some (suc d) (b ∷ bs) a = (a.0, alike_take_some d bs a.1)
alike_take (suc d) (b ∷ bs) (c ∷ cs) a = (a.0, alike_take d bs cs a.1)

alike_drop : (d : ℕ) (bs cs : List Binding) → AreAlike bs cs → AreAlike (drop d bs) (drop d cs)
alike_drop zero bs cs a = a
alike_drop (suc d) [] [] a = tt
alike_drop (suc d) [] (c ∷ cs) a = alike_drop_none d cs a.1
  where
    alike_drop_none : (d : ℕ) (cs : List Binding) → AreAlike [] cs → AreAlike [] (drop d cs)
    alike_drop_none zero cs a = a
    alike_drop_none (suc d) [] a = tt
    alike_drop_none (suc d) (c ∷ cs) a = alike_drop_none d cs a.1
alike_drop (suc d) (b ∷ bs) [] a = alike_drop_some d bs a.1
  where
    alike_drop_some : (d : ℕ) (bs : List Binding) → AreAlike bs [] → AreAlike (drop d bs) []
    alike_drop_some zero bs a = a
    alike_drop_some (suc d) [] a = tt
    alike_drop_some (suc d) (b ∷ bs) a = alike_drop_some d bs a.1
alike_drop (suc d) (b ∷ bs) (c ∷ cs) a = alike_drop d bs cs a.1

pub alike_names : (ts : List Task) (bs cs : List Binding) (i : ℕ) → AreAlike bs cs → names_in ts bs i ≡ names_in ts cs i
alike_names [] bs cs i a = refl
alike_names (Leave depth ∷ ts) bs cs zero a = alike_values (drop depth bs) (drop depth cs) (alike_drop depth bs cs a)
alike_names (Leave depth ∷ ts) bs cs (suc i) a = alike_names ts (take depth bs) (take depth cs) i (alike_take depth bs cs a)
alike_names (t ∷ ts) bs cs i a = alike_names ts bs cs i a

pub alike_tidy : (ts : List Task) (bs cs : List Binding) → AreAlike bs cs → IsTidy ts bs → IsTidy ts cs
alike_tidy [] bs cs a is = sym (alike_values bs cs a) ∙ is
alike_tidy (Leave depth ∷ ts) bs cs a is = (tt, alike_tidy ts (take depth bs) (take depth cs) (alike_take depth bs cs a) is.1)
alike_tidy (Forget depth ∷ ts) bs cs a is =
    (sym (alike_values (drop depth bs) (drop depth cs) (alike_drop depth bs cs a)) ∙ is.0, alike_tidy ts bs cs a is.1)
alike_tidy (Choose depth body _ other ∷ ts) bs cs a is =
    (sym (alike_values (drop depth bs) (drop depth cs) (alike_drop depth bs cs a)) ∙ is.0, alike_tidy ts bs cs a is.1)
alike_tidy (t ∷ ts) bs cs a is = (tt, alike_tidy ts bs cs a is.1)

-- ---- what stays alike

-- more at the end
pub alike_end : (bs cs : List Binding) → AreAlike [] cs → AreAlike bs (bs ++ cs)
alike_end [] cs a = a
alike_end (b ∷ bs) cs a = (inl refl, alike_end bs cs a)

-- less, where no name is forgotten
pub alike_forget : (d : ℕ) (bs : List Binding) → block_values (drop d bs) ≡ [] → AreAlike bs (take d bs)
alike_forget zero bs e = all bs e
  where
    all : (bs : List Binding) → block_values bs ≡ [] → AreAlike bs []
    all [] e = tt
    all (b ∷ bs) e = let is = cons_none b bs e in (is.0, all bs is.1)
alike_forget (suc d) [] e = tt
alike_forget (suc d) (b ∷ bs) e = (inl refl, alike_forget d bs e)

pub drop_take : (d : ℕ) (bs : List Binding) → drop d (take d bs) ≡ []
drop_take zero bs = refl
drop_take (suc d) [] = refl
drop_take (suc d) (b ∷ bs) = drop_take d bs

pub take_end : (bs cs : List Binding) → take (length bs) (bs ++ cs) ≡ bs
take_end [] cs = refl
take_end (b ∷ bs) cs = ap (λ l. b ∷ l) (take_end bs cs)
