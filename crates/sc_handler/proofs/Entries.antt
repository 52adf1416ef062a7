-- What a log tells, whatever is added behind what lies beside its entries.
use Rattle.std.proofs.Common.{◌≡◌, ◌+◌, ◌-◌, ◌<◌, ◌≤◌, ◌++◌, ◌∙◌, ℕ, List, [], ◌∷◌, Some, refl, sym, ap, subst, length, take, drop, slice_get, arith, length-append, length-drop}
use Rattle.std.proofs.lemmas.List.{map-append, length-take, drop-append-le, take-append-drop, get_or_append_left}
use Rattle.std.proofs.lemmas.List.Elements.{All-head, All-tail, All-push, All-weaker}
use Rattle.std.proofs.lemmas.Option.{get_or_from_slice_get, slice_get_within}
use Rattle.std.specs.Prelude.{map}
use Rattle.std.specs.List.{All}
use Rattle.sc_region.specs.declared.value.Value.{Value}
use Rattle.sc_handler.specs.declared.logged.LogEntry.{LogEntry}
use Rattle.sc_handler.specs.declared.packed.PackedSettlement.{PackedSettlement}
use Rattle.sc_handler.specs.declared.settlement.Settlement.{Settlement}
use Rattle.sc_handler.specs.Packed.{job_values, want_values, values_in_job, values_in_want, packed_settlement, values_of, values_in, unpacked}
use Rattle.sc_handler.specs.Entries.{IsWithin, no_settlement, packed_in, settlement_in}
use Rattle.sc_handler.proofs.Packing.{job_values_are, want_values_are, values_are, told_by, unpacked_stays}

-- ---- a longer log

begins : {A : Type 0} (xs ys : List A) → take (length xs) ys ≡ xs → ys ≡ xs ++ drop (length xs) ys
begins xs ys e = sym (take-append-drop (length xs) ys) ∙ ap (λ zs. zs ++ drop (length xs) ys) e

packed_stays : (ps qs : List PackedSettlement) (e : LogEntry) → e.packed < length ps → packed_in (ps ++ qs) e ≡ packed_in ps e
packed_stays ps qs e l = get_or_append_left ps qs no_settlement e.packed l

within_more : (ps qs : List PackedSettlement) (n m : ℕ) → n ≤ m → (e : LogEntry) → IsWithin ps n e → IsWithin (ps ++ qs) m e
within_more ps qs n m l e w =
    let there = w.packed in
    let fits = w.values in
    let long = length-append ps qs in
    let same = packed_stays ps qs e there in
    record {
      packed = omega (arith, there, long);
      values = subst (λ (p : PackedSettlement). e.first_value + values_in p ≤ m) (sym same) (omega (arith, fits, l));
      job_values = subst (λ (p : PackedSettlement). values_in_job p.job ≤ 16) (sym same) w.job_values;
      want_values = subst (λ (p : PackedSettlement). values_in_want p.want ≤ 16) (sym same) w.want_values;
    }

settlement_stays : (ps qs : List PackedSettlement) (vs us : List Value) (e : LogEntry) → IsWithin ps (length vs) e →
    settlement_in (ps ++ qs) (vs ++ us) e ≡ settlement_in ps vs e
settlement_stays ps qs vs us e w =
    let fits = w.values in
    let rest : length (drop e.first_value vs) ≡ length vs - e.first_value = length-drop e.first_value vs in
    ap (λ (p : PackedSettlement). unpacked p (drop e.first_value (vs ++ us))) (packed_stays ps qs e w.packed)
    ∙ ap (unpacked (packed_in ps e)) (drop-append-le e.first_value vs us (omega (arith, fits)))
    ∙ unpacked_stays (packed_in ps e) (drop e.first_value vs) us (omega (arith, fits, rest))

settlements_stay : (ps qs : List PackedSettlement) (vs us : List Value) (es : List LogEntry) → All (IsWithin ps (length vs)) es →
    map (settlement_in (ps ++ qs) (vs ++ us)) es ≡ map (settlement_in ps vs) es
settlements_stay ps qs vs us [] w = refl
settlements_stay ps qs vs us (e ∷ es) w =
    ap (λ x. x ∷ map (settlement_in (ps ++ qs) (vs ++ us)) es) (settlement_stays ps qs vs us e (All-head (IsWithin ps (length vs)) e es w))
    ∙ ap (λ xs. settlement_in ps vs e ∷ xs) (settlements_stay ps qs vs us es (All-tail (IsWithin ps (length vs)) e es w))

-- ---- a settlement is added

-- Two logs, the second of which has all that lies beside the entries of the first, and what a settlement tells beside one more.
pub record Adds (s : Settlement) (ps ps' : List PackedSettlement) (vs vs' : List Value) (e : LogEntry) : Type 0 where
  pub packed : take (length ps) ps' ≡ ps
  pub values : take (length vs) vs' ≡ vs
  pub numbered : slice_get ps' e.packed ≡ Some (packed_settlement s)
  pub placed : take (length (job_values s.job) + length (want_values s.want)) (drop e.first_value vs') ≡ values_of s
  pub within : e.first_value + (length (job_values s.job) + length (want_values s.want)) ≤ length vs'
  pub few_in_job : length (job_values s.job) ≤ 16
  pub few_in_want : length (want_values s.want) ≤ 16

-- the same, where what is added lies in two lists
pub adds : (s : Settlement) (ps ps' : List PackedSettlement) (vs vs' us xs : List Value) (e : LogEntry) (p : PackedSettlement) →
    us ≡ job_values s.job → xs ≡ want_values s.want → p ≡ packed_settlement s →
    take (length ps) ps' ≡ ps → take (length vs) vs' ≡ vs → slice_get ps' e.packed ≡ Some p →
    take (length us + length xs) (drop e.first_value vs') ≡ us ++ xs →
    e.first_value + (length us + length xs) ≤ length vs' → length us ≤ 16 → length xs ≤ 16 → Adds s ps ps' vs vs' e
adds s ps ps' vs vs' us xs e p is_us is_xs is_p packed values numbered placed within a b = record {
  packed = packed;
  values = values;
  numbered = numbered ∙ ap Some is_p;
  placed =
      subst (λ (ys : List Value). take (length ys + length (want_values s.want)) (drop e.first_value vs') ≡ ys ++ want_values s.want) is_us
      (subst (λ (ys : List Value). take (length us + length ys) (drop e.first_value vs') ≡ us ++ ys) is_xs placed);
  within =
      subst (λ (ys : List Value). e.first_value + (length ys + length (want_values s.want)) ≤ length vs') is_us
      (subst (λ (ys : List Value). e.first_value + (length us + length ys) ≤ length vs') is_xs within);
  few_in_job = subst (λ (ys : List Value). length ys ≤ 16) is_us a;
  few_in_want = subst (λ (ys : List Value). length ys ≤ 16) is_xs b;
}

is_packed : (s : Settlement) (ps ps' : List PackedSettlement) (vs vs' : List Value) (e : LogEntry) → Adds s ps ps' vs vs' e → packed_in ps' e ≡ packed_settlement s
is_packed s ps ps' vs vs' e x = get_or_from_slice_get ps' e.packed (packed_settlement s) no_settlement x.numbered

added_within : (s : Settlement) (ps ps' : List PackedSettlement) (vs vs' : List Value) (e : LogEntry) → Adds s ps ps' vs vs' e → IsWithin ps' (length vs') e
added_within s ps ps' vs vs' e x =
    let is = is_packed s ps ps' vs vs' e x in
    let room = x.within in
    let a = x.few_in_job in
    let b = x.few_in_want in
    let count = values_are s in
    let job = job_values_are s.job in
    let want = want_values_are s.want in
    record {
      packed = slice_get_within ps' e.packed (packed_settlement s) x.numbered;
      values = subst (λ (p : PackedSettlement). e.first_value + values_in p ≤ length vs') (sym is) (omega (arith, room, count));
      job_values = subst (λ (p : PackedSettlement). values_in_job p.job ≤ 16) (sym is) (omega (arith, a, job));
      want_values = subst (λ (p : PackedSettlement). values_in_want p.want ≤ 16) (sym is) (omega (arith, b, want));
    }

-- every entry of the longer log is within it
pub all_within : (es es' : List LogEntry) (s : Settlement) (ps ps' : List PackedSettlement) (vs vs' : List Value) (e : LogEntry) →
    All (IsWithin ps (length vs)) es → Adds s ps ps' vs vs' e → es' ≡ es ++ e ∷ [] → All (IsWithin ps' (length vs')) es'
all_within es es' s ps ps' vs vs' e all x is =
    let rest = drop (length ps) ps' in
    let whole : ps' ≡ ps ++ rest = begins ps ps' x.packed in
    let same : length (take (length vs) vs') ≡ length vs = ap length x.values in
    let least = length-take (length vs) vs' in
    let before : All (IsWithin ps' (length vs')) es =
    subst (λ (qs : List PackedSettlement). All (IsWithin qs (length vs')) es) (sym whole)
    (All-weaker (IsWithin ps (length vs)) (IsWithin (ps ++ rest) (length vs')) (within_more ps rest (length vs) (length vs') (omega (arith, same, least))) es all) in
    subst (λ (xs : List LogEntry). All (IsWithin ps' (length vs')) xs) (sym is)
    (All-push (IsWithin ps' (length vs')) es e before (added_within s ps ps' vs vs' e x))

-- and the longer log has the settlement behind those that it had
pub told_after : (es es' : List LogEntry) (s : Settlement) (ps ps' : List PackedSettlement) (vs vs' : List Value) (e : LogEntry) →
    All (IsWithin ps (length vs)) es → Adds s ps ps' vs vs' e → es' ≡ es ++ e ∷ [] →
    map (settlement_in ps' vs') es' ≡ map (settlement_in ps vs) es ++ s ∷ []
told_after es es' s ps ps' vs vs' e all x is =
    let qs = drop (length ps) ps' in
    let us = drop (length vs) vs' in
    let told : settlement_in ps' vs' e ≡ s =
    ap (λ (p : PackedSettlement). unpacked p (drop e.first_value vs')) (is_packed s ps ps' vs vs' e x)
    ∙ told_by s (length (job_values s.job) + length (want_values s.want)) (drop e.first_value vs') x.placed in
    let before : map (settlement_in ps' vs') es ≡ map (settlement_in ps vs) es =
    ap (λ (ks : List PackedSettlement). map (settlement_in ks vs') es) (begins ps ps' x.packed)
    ∙ ap (λ (ys : List Value). map (settlement_in (ps ++ qs) ys) es) (begins vs vs' x.values)
    ∙ settlements_stay ps qs vs us es all in
    ap (map (settlement_in ps' vs')) is
    ∙ map-append (settlement_in ps' vs') es (e ∷ [])
    ∙ ap (λ (xs : List Settlement). xs ++ settlement_in ps' vs' e ∷ []) before
    ∙ ap (λ (y : Settlement). map (settlement_in ps vs) es ++ y ∷ []) told
