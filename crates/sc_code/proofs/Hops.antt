-- Operations at places, and steps of the model that are some of them.
use Rattle.std.proofs.Common.{◌≡◌, ◌<◌, ℕ, zero, suc, ◌+◌, List, [], ◌∷◌, ◌++◌, Some, None, length, refl, ap, ◌∙◌, subst, arith, length-append, append_assoc}
use Rattle.std.specs.Prelude.{if◌then◌else◌, slice_get}
use Rattle.std.specs.Option.{option_map}
use Rattle.std.proofs.lemmas.Bool.{lt-ltb}
use Rattle.std.proofs.lemmas.Option.{slice_get-get_or}
use Rattle.std.proofs.Math.Seq.{get_or-append_seam}
use Rattle.sc_rules.specs.declared.entity_types.entity_type.EntityType.{EntityType}
use Rattle.sc_model.specs.declared.cause.Cause.{Cause}
use Rattle.sc_model.specs.Values.{Reference, Value, Operand, operand, values_of}
use Rattle.sc_model.specs.Environments.{scope_of}
use Rattle.sc_model.specs.Tasks.{Task}
use Rattle.sc_model.specs.Steps as model
use Rattle.sc_model.specs.Steps.{Point}
use Rattle.sc_code.specs.Operations.{Operation}
use Rattle.sc_code.specs.Machine.{State, Act, Fails, Hop, Goes, Does, Evaluated, Gives, Faults, fails, stuck, into, pushes, replaces, hop_at, hop_of, hop, then_hop, hops}
use Rattle.sc_code.specs.Stands.{Run, Knowledge, Known, HasAt, Is, Room, StandsFor, jumps, settles, exits, does, enters_text, declares, forgets, evaluates, judges, applies_unary, evaluates_right, decides, judges_right, applies_binary, concludes, concludes_judgement, tests, calls_routine, calls_feature, assigns_slot, assigns_attribute, assigns_result, creates, creates_handler, prints, chooses, repeats, ends_loop, checks, opens, leaves, requires, required, keeps_old, ensures, Tells, told, judged, known_at, Stands, Follows, Leads, Seen, state_at, types_of}

pub has_front : (code : List Operation) (p : ℕ) (a b : List Operation) → HasAt code p (a ++ b) → HasAt code p a
has_front code p [] b h = tt
has_front code p (i ∷ a) b h = (h.0, has_front code (p + 1) a b h.1)

pub has_back : (code : List Operation) (p : ℕ) (a b : List Operation) → HasAt code p (a ++ b) → HasAt code (p + length a) b
has_back code p [] b h = let e : p ≡ p + 0 = omega arith in subst (λ n. HasAt code n b) e h
has_back code p (i ∷ a) b h =
    let e : p + 1 + length a ≡ p + length (i ∷ a) = omega arith in
    subst (λ n. HasAt code n b) e (has_back code (p + 1) a b h.1)

pub has_on : (code : List Operation) (p q : ℕ) (a : List Operation) → p ≡ q → HasAt code p a → HasAt code q a
has_on code p q a e h = subst (λ n. HasAt code n a) e h

pub has_all : (os pre : List Operation) → HasAt (pre ++ os) (length pre) os
has_all [] pre = tt
has_all (o ∷ os) pre =
    let within : length pre < length (pre ++ o ∷ os) = omega (arith, length-append pre (o ∷ os)) in
    let here = slice_get-get_or (pre ++ o ∷ os) (length pre) o within ∙ ap Some (get_or-append_seam pre o os o) in
    let n : length (pre ++ o ∷ []) ≡ length pre + 1 = omega (arith, length-append pre (o ∷ [])) in
    let rest = has_all os (pre ++ o ∷ []) in
    let rest' = subst (λ l. HasAt l (length (pre ++ o ∷ [])) os) (append_assoc pre (o ∷ []) os) rest in
    (here, subst (λ m. HasAt (pre ++ o ∷ os) m os) n rest')

pub got : (os : List Operation) (n : ℕ) (o : Operation) → slice_get os n ≡ Some o → n < length os
got [] n o h = absurd (cc)
got (x ∷ os) zero o h = omega arith
got (x ∷ os) (suc n) o h = omega (arith, got os n o h)

-- a place that stands for tasks lies in the code
pub within : (g : Run) (p : ℕ) (x : Knowledge) (k : List Task) → StandsFor g p x k → p < length g.code.operations
within g p x k (jumps is st) = got g.code.operations p _ is
within g p x k (settles f b st) = within g p _ k st
within g p x k (exits is) = got g.code.operations p _ is
within g p x k (does e h t r l st) = omega (arith, within g _ _ _ st)
within g p x k (enters_text st) = within g p _ _ st
within g p x k (declares h l st) = omega (arith, within g _ _ _ st)
within g p x k (forgets st) = within g p _ _ st
within g p x k (evaluates h t r st) = omega (arith, within g _ _ _ st)
within g p x k (judges h t r l b st) = omega (arith, within g _ _ _ st)
within g p x k (applies_unary is st) = got g.code.operations p _ is
within g p x k (evaluates_right f s h t r st) = omega (arith, within g _ _ _ st)
within g p x k (decides s h t r st) = omega (arith, within g _ _ _ st)
within g p x k (judges_right h t r l b st) = omega (arith, within g _ _ _ st)
within g p x k (applies_binary is st) = got g.code.operations p _ is
within g p x k (concludes is st) = got g.code.operations p _ is
within g p x k (concludes_judgement is st) = got g.code.operations p _ is
within g p x k (tests is t l b st) = got g.code.operations p _ is
within g p x k (calls_routine a b c is r st) = got g.code.operations p _ is
within g p x k (calls_feature a b c is r st) = got g.code.operations p _ is
within g p x k (assigns_slot a b is st) = got g.code.operations p _ is
within g p x k (assigns_attribute a is st) = got g.code.operations p _ is
within g p x k (assigns_result a b is st) = got g.code.operations p _ is
within g p x k (creates a b c d is r st) = got g.code.operations p _ is
within g p x k (creates_handler a b c d is r st) = got g.code.operations p _ is
within g p x k (prints is st) = got g.code.operations p _ is
within g p x k (chooses e h a b c ra rb rc sa sb sc l st) = omega (arith, within g _ _ _ st)
within g p x k (repeats q e h i a b ra rb s st) = omega (arith, within g _ _ _ st)
within g p x k (ends_loop q e h i a b ra rb s st) = omega (arith, within g _ _ _ st)
within g p x k (checks is st) = got g.code.operations p _ is
within g p x k (opens e c pop is l h a r s lv st) = got g.code.operations p _ is
within g p x k (leaves is st) = got g.code.operations p _ is
within g p x k (requires h a r st) = omega (arith, within g _ _ _ st)
within g p x k (required is st) = got g.code.operations p _ is
within g p x k (keeps_old is u st) = got g.code.operations p _ is
within g p x k (ensures is st) = got g.code.operations p _ is

pub length_values : (us : List Operand) → length (values_of us) ≡ length us
length_values [] = refl
length_values (u ∷ us) = ap (λ n. suc n) (length_values us)

pub length_types : (us : List Operand) → length (types_of us) ≡ length us
length_types [] = refl
length_types (u ∷ us) = ap (λ n. suc n) (length_types us)

-- what an evaluation comes to is a step of the model
abbrev pub given_as : Evaluated → EntityType → Point → model.Step
given_as (Gives v) t p = model.gives v t p
given_as (Faults why) t p = model.fails why p

module _ (g : Run) (me : Reference) where
  pub one : (pc : ℕ) (tail : List Value) (o : Operation) (p : Point) (r : Hop) → Is g pc o → hop_at g.system g.code me o (state_at pc tail p) ≡ r
      → hop g.system g.code me (state_at pc tail p) ≡ r
  one pc tail o p r h e = ap (λ i. hop_of g.system g.code me i (state_at pc tail p)) h ∙ e

  -- a place that the code has
  pub comes : (to : ℕ) (f : State) → to < length g.code.operations → into g.code to f ≡ Goes (record f { place = to })
  comes to f l = ap (λ b. if b then Goes (record f { place = to }) else stuck f) (lt-ltb to (length g.code.operations) l)

  tells_within : (pc : ℕ) (p : Point) → Tells g pc p → pc < length g.code.operations
  tells_within pc p (told st) = within g pc _ p.tasks st
  tells_within pc p (judged u us low high e j st) = within g pc _ p.tasks st

  pub stands : (pc : ℕ) (tail : List Value) (p : Point) → StandsFor g pc (known_at p) p.tasks → length p.environment + length tail ≡ g.slots
      → option_map (λ (u : Operand). u.type) p.result ≡ g.result → Stands g pc tail p
  stands pc tail p st l r = record { tells = told st; has_slots = l; has_result = r }

  pub on : (p q : ℕ) (x : Knowledge) (k : List Task) → q ≡ p → StandsFor g q x k → StandsFor g p x k
  on p q x k e st = subst (λ n. StandsFor g n x k) e st

  -- a silent operation
  pub goes : (pc to : ℕ) (o : Operation) (tail rest : List Value) (p q : Point) → Is g pc o
      → hop_at g.system g.code me o (state_at pc tail p) ≡ into g.code to (state_at pc rest q) → Stands g to rest q → Follows g me pc tail p (model.Goes q)
  goes pc to o tail rest p q h e st =
      (1, to, rest, ap (λ x. then_hop x (hops zero g.system g.code me)) (one pc tail o p _ h e ∙ comes to (state_at pc rest q) (tells_within to q st.tells)), st)

  -- a visible one
  pub shows : (pc : ℕ) (o : Operation) (act : Act) (tail : List Value) (p : Point) (f : State) (a : model.Act) (q : Point) → Is g pc o
      → hop_at g.system g.code me o (state_at pc tail p) ≡ Does act f → Seen p.environment q.environment a act → Leads g a q f → Follows g me pc tail p (model.Does a q)
  shows pc o act tail p f a q h e seen leads = (0, pc, act, f, refl, one pc tail o p _ h e, seen, leads)

  pub failed : (pc : ℕ) (o : Operation) (why : Cause) (tail : List Value) (p q : Point) (f : State) → Is g pc o
      → hop_at g.system g.code me o (state_at pc tail p) ≡ fails why f → f.objects ≡ q.objects → Follows g me pc tail p (model.fails why q)
  failed pc o why tail p q f h e same = shows pc o (Fails why) tail p f (model.Fails why) (record q { environment = []; result = None; olds = []; tasks = []; values = [] }) h e refl same

  -- no operation
  pub stays : (pc : ℕ) (tail rest : List Value) (p q : Point) → state_at pc tail p ≡ state_at pc rest q → Stands g pc rest q → Follows g me pc tail p (model.Goes q)
  stays pc tail rest p q e st = (0, pc, rest, ap (λ f. Goes f) e, st)

  -- some operations, and then others
  pub hops_on : (n : ℕ) (f h : State) (r : Hop) → hops n g.system g.code me f ≡ Goes h → (k : ℕ) → hops k g.system g.code me h ≡ r
      → (j : ℕ) × (hops j g.system g.code me f ≡ r)
  hops_on zero f h r e k i = let same : f ≡ h = cc in (k, ap (hops k g.system g.code me) same ∙ i)
  hops_on (suc n) f h r e k i =
      elim (hop g.system g.code me f) as (λ x. hop g.system g.code me f ≡ x → then_hop x (hops n g.system g.code me) ≡ Goes h → (j : ℕ) × (hops j g.system g.code me f ≡ r)) [
        | Goes u ↦ λ is d. let a = hops_on n u h r d k i in (suc a.0, ap (λ x. then_hop x (hops a.0 g.system g.code me)) is ∙ a.1)
        | Does a u ↦ λ is d. absurd (cc)
      ] refl e

  -- a step after silent operations that leave the point as it is
  pub after : (n pc pc' : ℕ) (tail : List Value) (p : Point) (s : model.Step) → hops n g.system g.code me (state_at pc tail p) ≡ Goes (state_at pc' tail p)
      → Follows g me pc' tail p s → Follows g me pc tail p s
  after n pc pc' tail p (model.Goes q) h f = let j = hops_on n _ _ _ h f.0 f.3 in (j.0, f.1, f.2, j.1, f.4)
  after n pc pc' tail p (model.Does a q) h f = let j = hops_on n _ _ _ h f.0 f.4 in (j.0, f.1, f.2, f.3, j.1, f.5, f.6, f.7)

  -- the value comes in the place of those that were popped
  pub replaced : (e : Evaluated) (t : EntityType) (pc : ℕ) (o : Operation) (tail : List Value) (p q : Point) → Is g pc o
      → hop_at g.system g.code me o (state_at pc tail p) ≡ replaces g.code e (state_at pc tail q)
      → StandsFor g (pc + 1) (Known q.text (scope_of q.environment) (types_of q.olds) (t ∷ types_of q.values)) q.tasks
      → length q.environment + length tail ≡ g.slots → option_map (λ (u : Operand). u.type) q.result ≡ g.result → Follows g me pc tail p (given_as e t q)
  replaced (Gives v) t pc o tail p q h e st l r =
      goes pc (pc + 1 + 0) o tail tail p (record q { values = operand v t ∷ q.values }) h e
      (stands (pc + 1 + 0) tail (record q { values = operand v t ∷ q.values }) (on (pc + 1 + 0) (pc + 1) _ q.tasks (omega arith) st) l r)
  replaced (Faults why) t pc o tail p q h e st l r = failed pc o why tail p q (state_at pc tail q) h e refl

  -- one more operand
  pub pushed : (e : Evaluated) (t : EntityType) (pc : ℕ) (o : Operation) (tail : List Value) (p q : Point) → Is g pc o
      → hop_at g.system g.code me o (state_at pc tail p) ≡ pushes g.code e (state_at pc tail q) → Room g (types_of q.values) 1
      → StandsFor g (pc + 1) (Known q.text (scope_of q.environment) (types_of q.olds) (t ∷ types_of q.values)) q.tasks
      → length q.environment + length tail ≡ g.slots → option_map (λ (u : Operand). u.type) q.result ≡ g.result → Follows g me pc tail p (given_as e t q)
  pushed (Gives v) t pc o tail p q h e room st l r =
      let below : length (values_of q.values) < g.code.depth = omega (arith, room, length_values q.values, length_types q.values) in
      goes pc (pc + 1 + 0) o tail tail p (record q { values = operand v t ∷ q.values }) h
      (e ∙ ap (λ b. if b then into g.code (pc + 1 + 0) (state_at pc tail (record q { values = operand v t ∷ q.values })) else stuck (state_at pc tail q)) (lt-ltb _ _ below))
      (stands (pc + 1 + 0) tail (record q { values = operand v t ∷ q.values }) (on (pc + 1 + 0) (pc + 1) _ q.tasks (omega arith) st) l r)
  pushed (Faults why) t pc o tail p q h e room st l r = failed pc o why tail p q (state_at pc tail q) h e refl
