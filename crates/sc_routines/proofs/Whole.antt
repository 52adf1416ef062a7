-- A routine's code, and what it needs, from those of its parts.
use Rattle.std.proofs.Common.{◌≡◌, ℕ, ◌+◌, List, [], ◌∷◌, ◌++◌, length, max, ap, ◌∙◌, append_assoc}
use Rattle.sc_rules.specs.Names.{Entities}
use Rattle.sc_tree.specs.Plain.{System}
use Rattle.sc_model.specs.Olds.{olds_of_clauses}
use Rattle.sc_model.specs.Environments.{locals_bound, scope_of}
use Rattle.sc_model.specs.Routines.{Routine}
use Rattle.sc_code.specs.Operations.{Operation, Exit}
use Rattle.sc_code.specs.Places.{Setting, old_types}
use Rattle.sc_code.specs.Emitted.{require_code, olds_code, declare_code, instrs_code, ensure_code, checks_depth, olds_depth, instrs_depth, instrs_slots, clauses_depth, setting, formals_of, locals_of, olds_of_routine, opening_code, body_code, closing_code, routine_code, opening_depth, body_depth, routine_depth, routine_slots}

-- the settings of the contract, before and behind its `old`s, and of the body, and the names that the parts leave
module _ (s : System) (r : Routine) (h0 h1 h2 : Setting) (n0 n1 n2 : Entities) (e0 : h0 ≡ setting s r r.contract []) (f0 : n0 ≡ formals_of s r) (f1 : n1 ≡ n0) (f2 : n2 ≡ n1)
    (e1 : h1 ≡ record h0 { olds = h0.olds ++ old_types h0 n0 (olds_of_clauses r.ensure) }) (e2 : h2 ≡ setting s r r.text h1.olds) where
  contract_is : h1 ≡ setting s r r.contract (olds_of_routine s r)
  contract_is =
      e1 ∙ ap (λ (h : Setting). record h { olds = h.olds ++ old_types h n0 (olds_of_clauses r.ensure) }) e0
      ∙ ap (λ n. record (setting s r r.contract []) { olds = old_types (setting s r r.contract []) n (olds_of_clauses r.ensure) }) f0

  inside_is : h2 ≡ setting s r r.text (olds_of_routine s r)
  inside_is = e2 ∙ ap (λ (h : Setting). setting s r r.text h.olds) contract_is

  pub whole_code : (c0 c1 c2 c3 c4 : List Operation) → c1 ≡ c0 ++ (require_code h0 n0 r.require ++ olds_code h0 n0 (olds_of_clauses r.ensure)) →
      c2 ≡ c1 ++ (declare_code (length n1) (locals_bound h2.system h2.text.formals r.locals) ++ instrs_code h2 (n1 ++ scope_of (locals_bound h2.system h2.text.formals r.locals)) r.body) →
      c3 ≡ c2 ++ ensure_code h1 n2 0 r.ensure → c4 ≡ c3 ++ Exit ∷ [] → c4 ≡ c0 ++ routine_code s r
  whole_code c0 c1 c2 c3 c4 g1 g2 g3 g4 =
      let first : c1 ≡ c0 ++ opening_code s r =
      g1 ∙ ap (λ (h : Setting). c0 ++ (require_code h n0 r.require ++ olds_code h n0 (olds_of_clauses r.ensure))) e0
      ∙ ap (λ n. c0 ++ (require_code (setting s r r.contract []) n r.require ++ olds_code (setting s r r.contract []) n (olds_of_clauses r.ensure))) f0 in
      let second : c2 ≡ c1 ++ (declare_code (length (formals_of s r)) (locals_of s r) ++ body_code s r) =
      g2 ∙ ap (λ (h : Setting). c1 ++ (declare_code (length n1) (locals_bound h.system h.text.formals r.locals) ++ instrs_code h (n1 ++ scope_of (locals_bound h.system h.text.formals r.locals)) r.body)) inside_is
      ∙ ap (λ (n : Entities). c1 ++ (declare_code (length n) (locals_of s r) ++ instrs_code (setting s r r.text (olds_of_routine s r)) (n ++ scope_of (locals_of s r)) r.body)) (f1 ∙ f0) in
      let third : c3 ≡ c2 ++ closing_code s r =
      g3 ∙ ap (λ (h : Setting). c2 ++ ensure_code h n2 0 r.ensure) contract_is ∙ ap (λ n. c2 ++ ensure_code (setting s r r.contract (olds_of_routine s r)) n 0 r.ensure) (f2 ∙ f1 ∙ f0) in
      let o = opening_code s r in
      let d = declare_code (length (formals_of s r)) (locals_of s r) in
      let b = body_code s r in
      let k = closing_code s r in
      let flat : (((c0 ++ o) ++ (d ++ b)) ++ k) ++ Exit ∷ [] ≡ c0 ++ (o ++ (d ++ (b ++ (k ++ Exit ∷ [])))) = simp append_assoc in
      g4 ∙ ap (λ (l : List Operation). l ++ Exit ∷ []) (third ∙ ap (λ (l : List Operation). l ++ k) (second ∙ ap (λ (l : List Operation). l ++ (d ++ b)) first)) ∙ flat

  pub whole_depth : (d1 d2 d3 : ℕ) → d1 ≡ max (checks_depth h0 n0 r.require) (olds_depth h0 n0 (olds_of_clauses r.ensure)) →
      d2 ≡ instrs_depth h2 (n1 ++ scope_of (locals_bound h2.system h2.text.formals r.locals)) r.body → d3 ≡ clauses_depth h1 n2 0 r.ensure → max d1 (max d2 d3) ≡ routine_depth s r
  whole_depth d1 d2 d3 g1 g2 g3 =
      let first : d1 ≡ opening_depth s r =
      g1 ∙ ap (λ (h : Setting). max (checks_depth h n0 r.require) (olds_depth h n0 (olds_of_clauses r.ensure))) e0
      ∙ ap (λ n. max (checks_depth (setting s r r.contract []) n r.require) (olds_depth (setting s r r.contract []) n (olds_of_clauses r.ensure))) f0 in
      let second : d2 ≡ body_depth s r =
      g2 ∙ ap (λ (h : Setting). instrs_depth h (n1 ++ scope_of (locals_bound h.system h.text.formals r.locals)) r.body) inside_is
      ∙ ap (λ (n : Entities). instrs_depth (setting s r r.text (olds_of_routine s r)) (n ++ scope_of (locals_of s r)) r.body) (f1 ∙ f0) in
      let third : d3 ≡ clauses_depth (setting s r r.contract (olds_of_routine s r)) (formals_of s r) 0 r.ensure =
      g3 ∙ ap (λ (h : Setting). clauses_depth h n2 0 r.ensure) contract_is ∙ ap (λ n. clauses_depth (setting s r r.contract (olds_of_routine s r)) n 0 r.ensure) (f2 ∙ f1 ∙ f0) in
      ap (λ a. max a (max d2 d3)) first ∙ ap (λ a. max (opening_depth s r) (max a d3)) second ∙ ap (λ a. max (opening_depth s r) (max (body_depth s r) a)) third

  pub whole_slots : (k : ℕ) → k ≡ max (length n1 + length (locals_bound h2.system h2.text.formals r.locals)) (instrs_slots h2 (n1 ++ scope_of (locals_bound h2.system h2.text.formals r.locals)) r.body) → k ≡ routine_slots s r
  whole_slots k g =
      g ∙ ap (λ (h : Setting). max (length n1 + length (locals_bound h.system h.text.formals r.locals)) (instrs_slots h (n1 ++ scope_of (locals_bound h.system h.text.formals r.locals)) r.body)) inside_is
      ∙ ap (λ (n : Entities). max (length n + length (locals_of s r)) (instrs_slots (setting s r r.text (olds_of_routine s r)) (n ++ scope_of (locals_of s r)) r.body)) (f1 ∙ f0)
