-- Requests, creations of handlers and beginnings of blocks as flat code sees them: which act of the machine each is.
use Rattle.std.proofs.Common.{◌≡◌, ℕ, Bool, List, Option, is_some, refl, ap, ◌∙◌}
use Rattle.sc_rules.specs.declared.entity_types.entity_type.EntityType.{EntityType}
use Rattle.sc_model.specs.Environments.{Binding}
use Rattle.sc_model.specs.Steps as model
use Rattle.sc_model.specs.Values as values
use Rattle.sc_model.specs.Values.{Operand}
use Rattle.sc_code.specs.Machine as flat
use Rattle.sc_code.specs.Stands.{Seen}

-- ---- what is seen

-- a handler is created with this class
pub record IsCreation (a : model.Act) (class : ℕ) (x : Option (List ℕ)) (us : List values.Value) (passes : Bool) : Type 0 where
  pub procedure : Option (List ℕ)
  pub actuals : List Operand
  pub type : EntityType
  pub act : a ≡ model.CreatesHandler class procedure actuals type passes
  pub procedure_is : procedure ≡ x
  pub actuals_are : values.values_of actuals ≡ us

same_class : (j k : ℕ) (x y : Option (List ℕ)) (us vs : List values.Value) (p q : Bool) → flat.CreatesHandler k x us p ≡ flat.CreatesHandler j y vs q → j ≡ k
same_class j k x y us vs p q e = cc

same_procedure : (j k : ℕ) (x y : Option (List ℕ)) (us vs : List values.Value) (p q : Bool) → flat.CreatesHandler k x us p ≡ flat.CreatesHandler j y vs q → y ≡ x
same_procedure j k x y us vs p q e = cc

same_given : (j k : ℕ) (x y : Option (List ℕ)) (us vs : List values.Value) (p q : Bool) → flat.CreatesHandler k x us p ≡ flat.CreatesHandler j y vs q → vs ≡ us
same_given j k x y us vs p q e = cc

same_passing : (j k : ℕ) (x y : Option (List ℕ)) (us vs : List values.Value) (p q : Bool) → flat.CreatesHandler k x us p ≡ flat.CreatesHandler j y vs q → q ≡ p
same_passing j k x y us vs p q e = cc

pub creates_handler_is : (bs cs : List Binding) (a : model.Act) (k : ℕ) (x : Option (List ℕ)) (us : List values.Value) (p : Bool) → Seen bs cs a (flat.CreatesHandler k x us p) →
    IsCreation a k x us p
creates_handler_is bs cs (model.CreatesHandler j y vs t q) k x us p e = record {
  procedure = y;
  actuals = vs;
  type = t;
  act = ap (λ i. model.CreatesHandler i y vs t q) (same_class j k x y us (values.values_of vs) p q e)
      ∙ ap (λ b. model.CreatesHandler k y vs t b) (same_passing j k x y us (values.values_of vs) p q e);
  procedure_is = same_procedure j k x y us (values.values_of vs) p q e;
  actuals_are = same_given j k x y us (values.values_of vs) p q e;
}
creates_handler_is bs cs (model.Prints t) k x us p e = cc
creates_handler_is bs cs model.Until k x us p e = cc
creates_handler_is bs cs model.Creates k x us p e = cc
creates_handler_is bs cs (model.Enters c r y vs t) k x us p e = cc
creates_handler_is bs cs (model.Requests r y vs t q) k x us p e = cc
creates_handler_is bs cs model.Starts k x us p e = cc
creates_handler_is bs cs (model.Refuses c) k x us p e = cc
creates_handler_is bs cs model.Opens k x us p e = let no = e.2 in cc
creates_handler_is bs cs model.Leaves k x us p e = cc
creates_handler_is bs cs model.Exits k x us p e = cc
creates_handler_is bs cs (model.Fails w) k x us p e = cc

-- a request is made to this object
pub record IsRequest (a : model.Act) (r : values.Reference) (x : List ℕ) (us : List values.Value) (gives passes : Bool) : Type 0 where
  pub name : List ℕ
  pub actuals : List Operand
  pub type : Option EntityType
  pub act : a ≡ model.Requests r name actuals type passes
  pub name_is : name ≡ x
  pub actuals_are : values.values_of actuals ≡ us
  pub gives_is : is_some type ≡ gives

same_object : (j k : values.Reference) (x y : List ℕ) (us vs : List values.Value) (g h p q : Bool) → flat.Requests k x us g p ≡ flat.Requests j y vs h q → j ≡ k
same_object j k x y us vs g h p q e = cc

same_name : (j k : values.Reference) (x y : List ℕ) (us vs : List values.Value) (g h p q : Bool) → flat.Requests k x us g p ≡ flat.Requests j y vs h q → y ≡ x
same_name j k x y us vs g h p q e = cc

same_actuals : (j k : values.Reference) (x y : List ℕ) (us vs : List values.Value) (g h p q : Bool) → flat.Requests k x us g p ≡ flat.Requests j y vs h q → vs ≡ us
same_actuals j k x y us vs g h p q e = cc

same_gives : (j k : values.Reference) (x y : List ℕ) (us vs : List values.Value) (g h p q : Bool) → flat.Requests k x us g p ≡ flat.Requests j y vs h q → h ≡ g
same_gives j k x y us vs g h p q e = cc

same_passes : (j k : values.Reference) (x y : List ℕ) (us vs : List values.Value) (g h p q : Bool) → flat.Requests k x us g p ≡ flat.Requests j y vs h q → q ≡ p
same_passes j k x y us vs g h p q e = cc

pub requests_is : (bs cs : List Binding) (a : model.Act) (r : values.Reference) (x : List ℕ) (us : List values.Value) (g p : Bool) → Seen bs cs a (flat.Requests r x us g p) →
    IsRequest a r x us g p
requests_is bs cs (model.Requests j y vs t q) r x us g p e = record {
  name = y;
  actuals = vs;
  type = t;
  act = ap (λ i. model.Requests i y vs t q) (same_object j r x y us (values.values_of vs) g (is_some t) p q e)
      ∙ ap (λ b. model.Requests r y vs t b) (same_passes j r x y us (values.values_of vs) g (is_some t) p q e);
  name_is = same_name j r x y us (values.values_of vs) g (is_some t) p q e;
  actuals_are = same_actuals j r x y us (values.values_of vs) g (is_some t) p q e;
  gives_is = same_gives j r x y us (values.values_of vs) g (is_some t) p q e;
}
requests_is bs cs (model.Prints t) r x us g p e = cc
requests_is bs cs model.Until r x us g p e = cc
requests_is bs cs model.Creates r x us g p e = cc
requests_is bs cs (model.CreatesHandler k y vs t q) r x us g p e = cc
requests_is bs cs (model.Enters c j y vs t) r x us g p e = cc
requests_is bs cs model.Starts r x us g p e = cc
requests_is bs cs (model.Refuses c) r x us g p e = cc
requests_is bs cs model.Opens r x us g p e = let no = e.2 in cc
requests_is bs cs model.Leaves r x us g p e = cc
requests_is bs cs model.Exits r x us g p e = cc
requests_is bs cs (model.Fails w) r x us g p e = cc

pub opens_is : (bs cs : List Binding) (a : model.Act) (first n : ℕ) → Seen bs cs a (flat.Opens first n) → a ≡ model.Opens
opens_is bs cs (model.Prints t) first n e = cc
opens_is bs cs model.Until first n e = cc
opens_is bs cs model.Creates first n e = cc
opens_is bs cs (model.CreatesHandler k y vs t q) first n e = cc
opens_is bs cs (model.Enters c j y vs t) first n e = cc
opens_is bs cs (model.Requests j y vs t q) first n e = cc
opens_is bs cs model.Starts first n e = cc
opens_is bs cs (model.Refuses c) first n e = cc
opens_is bs cs model.Opens first n e = refl
opens_is bs cs model.Leaves first n e = cc
opens_is bs cs model.Exits first n e = cc
opens_is bs cs (model.Fails w) first n e = cc
