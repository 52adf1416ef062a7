use Rattle.std.proofs.Common.{◌≡◌, List, [], ◌∷◌, ℕ, ◌+◌, length, map, Bor, ap, sym, ◌∙◌, arith}
use Rattle.std.proofs.lemmas.List.{length-append, length-map}
use Rattle.sc_source.specs.Joining.{AreJoined, IsJoinFault, names_for, no_memory}
use Rattle.sc_source.proofs.JoiningLemmas.{named-all, or-fault, told-all, told-more, which-name}
use Rattle.sc_source.proofs.files.read_source.Goals as goal

pub returns-clause-named : goal.returns-clause-named
returns-clause-named g c =
    let names : List (List ℕ) = map (λ (name : Bor (List ℕ)). name.now) c.args.names.now in
    let count : c.loop-name.name-index ≡ length c.args.names.now = omega arith in
    let many : length c.as_mut_slice.result.now ≡ length names =
    ap length c.as_mut_slice.ensures.value ∙ c.loop-name.invariant.many ∙ count ∙ sym (length-map c.args.names.now (λ (name : Bor (List ℕ)). name.now)) in
    let same : names_for names (length c.as_mut_slice.result.now) ≡ names = ap (names_for names) many ∙ named-all names in
    rw same at c.join.ensures.named

pub returns-clause-which : goal.returns-clause-which
returns-clause-which g c =
    let names : List (List ℕ) = map (λ (name : Bor (List ℕ)). name.now) c.args.names.now in
    let count : c.loop-name.name-index ≡ length c.args.names.now = omega arith in
    let many : length c.as_mut_slice.result.now ≡ length names =
    ap length c.as_mut_slice.ensures.value ∙ c.loop-name.invariant.many ∙ count ∙ sym (length-map c.args.names.now (λ (name : Bor (List ℕ)). name.now)) in
    which-name _ (length c.as_mut_slice.result.now) (length names) many c.join.ensures.which

pub returns-clause-answer : goal.returns-clause-answer
returns-clause-answer g c = λ texts told.
    or-fault c.join.result (AreJoined texts) (λ why. why.fault ≡ no_memory) (IsJoinFault texts) (c.join.ensures.answer texts
    (told-all _ (λ (name : Bor (List ℕ)). g.F.Files.bytes_of c.args.files.now name.now) c.loop-name.readers.items c.as_mut_slice.result.now
    c.args.names.now c.loop-name.name-index texts c.as_mut_slice.ensures.value (omega arith) c.loop-name.invariant.told told))

pub returns-clause-fits : goal.returns-clause-fits
returns-clause-fits g c = λ texts told.
    c.join.ensures.fits texts
    (told-all _ (λ (name : Bor (List ℕ)). g.F.Files.bytes_of c.args.files.now name.now) c.loop-name.readers.items c.as_mut_slice.result.now
    c.args.names.now c.loop-name.name-index texts c.as_mut_slice.ensures.value (omega arith) c.loop-name.invariant.told told)

pub returns-clause-too_long : goal.returns-clause-too_long
returns-clause-too_long g c = λ texts told.
    c.join.ensures.too_long texts
    (told-all _ (λ (name : Bor (List ℕ)). g.F.Files.bytes_of c.args.files.now name.now) c.loop-name.readers.items c.as_mut_slice.result.now
    c.args.names.now c.loop-name.name-index texts c.as_mut_slice.ensures.value (omega arith) c.loop-name.invariant.told told)

pub loop-name-preserved : goal.loop-name-preserved
loop-name-preserved g c =
    let size : length c.push.new.self.items ≡ length c.loop-name.readers.items + 1 =
    ap length c.in_ok-push.ensures.items ∙ length-append c.loop-name.readers.items (c.new.result ∷ []) in
    let before : length c.loop-name.readers.items ≡ c.loop-name.name-index = c.loop-name.invariant.many in
    record {
      many = size ∙ ap (λ n. n + 1) before;
      told = told-more _ (λ (name : Bor (List ℕ)). g.F.Files.bytes_of c.args.files.now name.now) c.loop-name.readers.items c.push.new.self.items
          c.args.names.now c.loop-name.name-index c.new.result _ c.in_ok-push.ensures.items (omega arith) c.loop-name.invariant.told c.new.ensures;
    }
