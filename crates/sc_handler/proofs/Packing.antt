-- What was packed is told as it was, whatever lies behind its values; and what is told alike is packed alike.
use Rattle.std.proofs.Common.{◌≡◌, ◌+◌, ◌-◌, ◌≤◌, ◌++◌, ◌∙◌, ℕ, Bool, true, false, List, [], ◌∷◌, Option, Some, None, is_some, refl, sym, ap, length, take, drop, arith, append_assoc, length-drop}
use Rattle.std.proofs.lemmas.List.{take_at, take-append-le, drop_at, drop-append-le, length-take-le, take-append-drop}
use Rattle.std.specs.Prelude.{option_to_list}
use lib.Seq.{take-add}
use Rattle.arrayvec.specs.ArrayVec.{ArrayVec}
use Rattle.sc_region.specs.declared.value.Value.{Value}
use Rattle.sc_region.specs.declared.job.Request.{Request}
use Rattle.sc_region.specs.declared.job.Job.{Job}
use Rattle.sc_region.specs.declared.job.Job.TheVariants as job
use Rattle.sc_region.specs.declared.job.Want.{Want}
use Rattle.sc_region.specs.declared.job.Want.TheVariants as want
use Rattle.sc_handler.specs.declared.settlement.Settlement.{Settlement}
use Rattle.sc_handler.specs.declared.packed.PackedRequest.{PackedRequest}
use Rattle.sc_handler.specs.declared.packed.PackedJob.{PackedJob}
use Rattle.sc_handler.specs.declared.packed.PackedJob.TheVariants as packed
use Rattle.sc_handler.specs.declared.packed.PackedWant.{PackedWant}
use Rattle.sc_handler.specs.declared.packed.PackedWant.TheVariants as packed_as
use Rattle.sc_handler.specs.declared.packed.PackedSettlement.{PackedSettlement}
use Rattle.sc_handler.specs.Packed.{packed_request, first_of_all, unpacked_request, value_if, count_if, packed_job, job_values, values_in_job, unpacked_job, packed_want, want_values, values_in_want, unpacked_want, packed_settlement, values_of, values_in, unpacked}

-- ---- what was packed is unpacked

value_is : (v : Option Value) (vs : List Value) → value_if (is_some v) (option_to_list v ++ vs) ≡ v
value_is None vs = refl
value_is (Some v) vs = refl

first_is : {A : Type 0} (v : ArrayVec A) (more : List A) → first_of_all (length v.items) (v.items ++ more) ≡ v
first_is v more = ap (λ xs. record { items = xs }) (take_at v.items more (length v.items) refl)

request_is : (r : Request) (vs : List Value) → unpacked_request (packed_request r) (r.actuals.items ++ vs) ≡ r
request_is r vs = ap (λ v. record r { actuals = v }) (first_is r.actuals vs)

job_is : (j : Job) (vs : List Value) → unpacked_job (packed_job j) (job_values j ++ vs) ≡ j
job_is (job.Take r) vs = ap job.Take (request_is r vs)
job_is (job.Reply v) vs = ap job.Reply (value_is v vs)
job_is job.Failed vs = refl
job_is job.Refused vs = refl
job_is (job.Granted hs) vs = refl
job_is (job.Made k) vs = refl
job_is job.Go vs = refl

want_is : (w : Want) (vs : List Value) → unpacked_want (packed_want w) (want_values w ++ vs) ≡ w
want_is want.Continue vs = refl
want_is (want.Reserve hs) vs = refl
want_is (want.Post r) vs = ap want.Post (request_is r vs)
want_is (want.Ask r passes) vs = ap (λ q. want.Ask q passes) (request_is r vs)
want_is (want.Create class procedure actuals passes) vs = ap (λ v. want.Create class procedure v passes) (first_is actuals vs)
want_is (want.Release hs) vs = refl
want_is (want.Wait hs) vs = refl
want_is (want.Done v hs refused) vs = ap (λ u. want.Done u hs refused) (value_is v vs)
want_is (want.Fail why) vs = refl

-- ---- how many values there are

count_is : (v : Option Value) → count_if (is_some v) ≡ length (option_to_list v)
count_is None = refl
count_is (Some v) = refl

pub job_values_are : (j : Job) → values_in_job (packed_job j) ≡ length (job_values j)
job_values_are (job.Take r) = refl
job_values_are (job.Reply v) = count_is v
job_values_are job.Failed = refl
job_values_are job.Refused = refl
job_values_are (job.Granted hs) = refl
job_values_are (job.Made k) = refl
job_values_are job.Go = refl

pub want_values_are : (w : Want) → values_in_want (packed_want w) ≡ length (want_values w)
want_values_are want.Continue = refl
want_values_are (want.Reserve hs) = refl
want_values_are (want.Post r) = refl
want_values_are (want.Ask r passes) = refl
want_values_are (want.Create class procedure actuals passes) = refl
want_values_are (want.Release hs) = refl
want_values_are (want.Wait hs) = refl
want_values_are (want.Done v hs refused) = count_is v
want_values_are (want.Fail why) = refl

-- ---- a settlement

settlement_is : (s : Settlement) (vs : List Value) → unpacked (packed_settlement s) (values_of s ++ vs) ≡ s
settlement_is s vs =
    let us = job_values s.job in
    let xs = want_values s.want in
    let n = values_in_job (packed_job s.job) in
    let jobs : unpacked_job (packed_job s.job) ((us ++ xs) ++ vs) ≡ s.job =
    ap (unpacked_job (packed_job s.job)) (append_assoc us xs vs) ∙ job_is s.job (xs ++ vs) in
    let wants : unpacked_want (packed_want s.want) (drop n ((us ++ xs) ++ vs)) ≡ s.want =
    ap (λ q. unpacked_want (packed_want s.want) (drop n q)) (append_assoc us xs vs)
    ∙ ap (unpacked_want (packed_want s.want)) (drop_at us (xs ++ vs) n (sym (job_values_are s.job)))
    ∙ want_is s.want vs in
    λ i. record { handler = s.handler; job = jobs i; turns = s.turns; want = wants i }

-- it is told by what begins with its values
pub told_by : (s : Settlement) (n : ℕ) (vs : List Value) → take n vs ≡ values_of s → unpacked (packed_settlement s) vs ≡ s
told_by s n vs e =
    ap (unpacked (packed_settlement s)) (sym (take-append-drop n vs) ∙ ap (λ us. us ++ drop n vs) e)
    ∙ settlement_is s (drop n vs)

pub values_are : (s : Settlement) → values_in (packed_settlement s) ≡ length (job_values s.job) + length (want_values s.want)
values_are s =
    let e = job_values_are s.job in
    let f = want_values_are s.want in
    omega (arith, e, f)

-- ---- what lies behind changes nothing

value_stays : (b : Bool) (vs us : List Value) → count_if b ≤ length vs → value_if b (vs ++ us) ≡ value_if b vs
value_stays false vs us l = refl
value_stays true [] us l = absurd (omega (arith, l))
value_stays true (v ∷ vs) us l = refl

first_stays : {A : Type 0} (n : ℕ) (xs more : List A) → n ≤ length xs → first_of_all n (xs ++ more) ≡ first_of_all n xs
first_stays n xs more l = ap (λ ys. record { items = ys }) (take-append-le n xs more l)

request_stays : (p : PackedRequest) (vs us : List Value) → p.actuals ≤ length vs → unpacked_request p (vs ++ us) ≡ unpacked_request p vs
request_stays p vs us l = ap (λ v. record (unpacked_request p vs) { actuals = v }) (first_stays p.actuals vs us l)

job_stays : (p : PackedJob) (vs us : List Value) → values_in_job p ≤ length vs → unpacked_job p (vs ++ us) ≡ unpacked_job p vs
job_stays (packed.Take p) vs us l = ap job.Take (request_stays p vs us l)
job_stays (packed.Reply b) vs us l = ap job.Reply (value_stays b vs us l)
job_stays packed.Failed vs us l = refl
job_stays packed.Refused vs us l = refl
job_stays (packed.Granted hs) vs us l = refl
job_stays (packed.Made k) vs us l = refl
job_stays packed.Go vs us l = refl

want_stays : (p : PackedWant) (vs us : List Value) → values_in_want p ≤ length vs → unpacked_want p (vs ++ us) ≡ unpacked_want p vs
want_stays packed_as.Continue vs us l = refl
want_stays (packed_as.Reserve hs) vs us l = refl
want_stays (packed_as.Post p) vs us l = ap want.Post (request_stays p vs us l)
want_stays (packed_as.Ask p passes) vs us l = ap (λ q. want.Ask q passes) (request_stays p vs us l)
want_stays (packed_as.Create class procedure n passes) vs us l = ap (λ v. want.Create class procedure v passes) (first_stays n vs us l)
want_stays (packed_as.Release hs) vs us l = refl
want_stays (packed_as.Wait hs) vs us l = refl
want_stays (packed_as.Done hs b refused) vs us l = ap (λ v. want.Done v hs refused) (value_stays b vs us l)
want_stays (packed_as.Fail why) vs us l = refl

pub unpacked_stays : (p : PackedSettlement) (vs us : List Value) → values_in p ≤ length vs → unpacked p (vs ++ us) ≡ unpacked p vs
unpacked_stays p vs us l =
    let n = values_in_job p.job in
    let rest : length (drop n vs) ≡ length vs - n = length-drop n vs in
    ap (λ j. record (unpacked p (vs ++ us)) { job = j }) (job_stays p.job vs us (omega (arith, l)))
    ∙ ap (λ w. record (unpacked p vs) { want = w })
    (ap (unpacked_want p.want) (drop-append-le n vs us (omega (arith, l))) ∙ want_stays p.want (drop n vs) us (omega (arith, l, rest)))

-- so the first of the values tell it
first_tell : (p : PackedSettlement) (vs : List Value) → values_in p ≤ length vs → unpacked p (take (values_in p) vs) ≡ unpacked p vs
first_tell p vs l =
    let n = values_in p in
    let long = length-take-le n vs l in
    sym (ap (unpacked p) (sym (take-append-drop n vs)) ∙ unpacked_stays p (take n vs) (drop n vs) (omega (arith, long)))

-- ---- what is told is packed as it was

value_again : (b : Bool) (vs : List Value) → count_if b ≤ length vs → is_some (value_if b vs) ≡ b
value_again false vs l = refl
value_again true [] l = absurd (omega (arith, l))
value_again true (v ∷ vs) l = refl

values_again : (b : Bool) (vs : List Value) → count_if b ≤ length vs → option_to_list (value_if b vs) ≡ take (count_if b) vs
values_again false vs l = refl
values_again true [] l = absurd (omega (arith, l))
values_again true (v ∷ vs) l = refl

request_again : (p : PackedRequest) (vs : List Value) → p.actuals ≤ length vs → packed_request (unpacked_request p vs) ≡ p
request_again p vs l = ap (λ n. record p { actuals = n }) (length-take-le p.actuals vs l)

job_again : (p : PackedJob) (vs : List Value) → values_in_job p ≤ length vs → packed_job (unpacked_job p vs) ≡ p
job_again (packed.Take p) vs l = ap packed.Take (request_again p vs l)
job_again (packed.Reply b) vs l = ap packed.Reply (value_again b vs l)
job_again packed.Failed vs l = refl
job_again packed.Refused vs l = refl
job_again (packed.Granted hs) vs l = refl
job_again (packed.Made k) vs l = refl
job_again packed.Go vs l = refl

job_values_again : (p : PackedJob) (vs : List Value) → values_in_job p ≤ length vs → job_values (unpacked_job p vs) ≡ take (values_in_job p) vs
job_values_again (packed.Take p) vs l = refl
job_values_again (packed.Reply b) vs l = values_again b vs l
job_values_again packed.Failed vs l = refl
job_values_again packed.Refused vs l = refl
job_values_again (packed.Granted hs) vs l = refl
job_values_again (packed.Made k) vs l = refl
job_values_again packed.Go vs l = refl

want_again : (p : PackedWant) (vs : List Value) → values_in_want p ≤ length vs → packed_want (unpacked_want p vs) ≡ p
want_again packed_as.Continue vs l = refl
want_again (packed_as.Reserve hs) vs l = refl
want_again (packed_as.Post p) vs l = ap packed_as.Post (request_again p vs l)
want_again (packed_as.Ask p passes) vs l = ap (λ q. packed_as.Ask q passes) (request_again p vs l)
want_again (packed_as.Create class procedure n passes) vs l = ap (λ m. packed_as.Create class procedure m passes) (length-take-le n vs l)
want_again (packed_as.Release hs) vs l = refl
want_again (packed_as.Wait hs) vs l = refl
want_again (packed_as.Done hs b refused) vs l = ap (λ c. packed_as.Done hs c refused) (value_again b vs l)
want_again (packed_as.Fail why) vs l = refl

want_values_again : (p : PackedWant) (vs : List Value) → values_in_want p ≤ length vs → want_values (unpacked_want p vs) ≡ take (values_in_want p) vs
want_values_again packed_as.Continue vs l = refl
want_values_again (packed_as.Reserve hs) vs l = refl
want_values_again (packed_as.Post p) vs l = refl
want_values_again (packed_as.Ask p passes) vs l = refl
want_values_again (packed_as.Create class procedure n passes) vs l = refl
want_values_again (packed_as.Release hs) vs l = refl
want_values_again (packed_as.Wait hs) vs l = refl
want_values_again (packed_as.Done hs b refused) vs l = values_again b vs l
want_values_again (packed_as.Fail why) vs l = refl

packed_again : (p : PackedSettlement) (vs : List Value) → values_in p ≤ length vs → packed_settlement (unpacked p vs) ≡ p
packed_again p vs l =
    let n = values_in_job p.job in
    let rest : length (drop n vs) ≡ length vs - n = length-drop n vs in
    let jobs = job_again p.job vs (omega (arith, l)) in
    let wants = want_again p.want (drop n vs) (omega (arith, l, rest)) in
    λ i. record { handler = p.handler; turns = p.turns; job = jobs i; want = wants i }

told_values : (p : PackedSettlement) (vs : List Value) → values_in p ≤ length vs → values_of (unpacked p vs) ≡ take (values_in p) vs
told_values p vs l =
    let n = values_in_job p.job in
    let rest : length (drop n vs) ≡ length vs - n = length-drop n vs in
    ap (λ us. us ++ want_values (unpacked_want p.want (drop n vs))) (job_values_again p.job vs (omega (arith, l)))
    ∙ ap (λ us. take n vs ++ us) (want_values_again p.want (drop n vs) (omega (arith, l, rest)))
    ∙ sym (take-add n (values_in_want p.want) vs)

-- ---- two packed settlements tell the same exactly where they are the same, with the same values

told_alike : (p q : PackedSettlement) (vs us : List Value) → values_in p ≤ length vs → values_in q ≤ length us →
    p ≡ q → take (values_in p) vs ≡ take (values_in q) us → unpacked p vs ≡ unpacked q us
told_alike p q vs us l m same firsts =
    sym (first_tell p vs l) ∙ ap (unpacked p) firsts ∙ ap (λ r. unpacked r (take (values_in q) us)) same ∙ first_tell q us m

packed_alike : (p q : PackedSettlement) (vs us : List Value) → values_in p ≤ length vs → values_in q ≤ length us →
    unpacked p vs ≡ unpacked q us → p ≡ q
packed_alike p q vs us l m e = sym (packed_again p vs l) ∙ ap packed_settlement e ∙ packed_again q us m

values_alike : (p q : PackedSettlement) (vs us : List Value) → values_in p ≤ length vs → values_in q ≤ length us →
    unpacked p vs ≡ unpacked q us → take (values_in p) vs ≡ take (values_in q) us
values_alike p q vs us l m e = sym (told_values p vs l) ∙ ap values_of e ∙ told_values q us m

not_both : (b : Bool) → b ≡ true → b ≡ false → ⊥
not_both b e f = cc

-- where they are the same, it is told whether they have so many of the same values
pub same_tell : (r : Bool) (p q : PackedSettlement) (vs us : List Value) (n m : ℕ) → values_in p ≤ length vs → values_in q ≤ length us →
    p ≡ q → n ≡ values_in p → m ≡ values_in q → (r ≡ true → take n vs ≡ take m us) × (take n vs ≡ take m us → r ≡ true) →
    (r ≡ true → unpacked p vs ≡ unpacked q us) × (unpacked p vs ≡ unpacked q us → r ≡ true)
same_tell r p q vs us n m l k same is its both = (
  λ e. told_alike p q vs us l k same (ap (λ i. take i vs) (sym is) ∙ both.0 e ∙ ap (λ i. take i us) its),
  λ e. both.1 (ap (λ i. take i vs) is ∙ values_alike p q vs us l k e ∙ ap (λ i. take i us) (sym its)),
)

-- where they aren't, nothing that they tell is the same
pub others_tell : (r : Bool) (p q : PackedSettlement) (vs us : List Value) → values_in p ≤ length vs → values_in q ≤ length us →
    (p ≡ q → r ≡ true) → r ≡ false → (r ≡ true → unpacked p vs ≡ unpacked q us) × (unpacked p vs ≡ unpacked q us → r ≡ true)
others_tell r p q vs us l k both other = (
  λ e. absurd (not_both r e other),
  λ e. both (packed_alike p q vs us l k e),
)
