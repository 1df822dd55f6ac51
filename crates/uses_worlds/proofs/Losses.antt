-- What a user says of a loss of power follows from the laws of what it leaves.
use Rattle.std.{proofs.Common.{◌≡◌, inl, inr, ℕ, List, None, Some, Vec, Global, Result, Ok, Err, refl, sym, ap, subst, ◌∙◌}, specs.Prelude.{IfErr, IsErrAnd}}
use Rattle.cacache.specs.{Calls.{Error}, Histories.{DurablePut, FewCalls, HistoriesOutlive, History, IsLast, IsStanding, LeadsToDigest, LeftBy, LeftRead, LeftWritten, LinksOutlast, Loss, LossesLeaveLast, LossesLeaveLastLinks, LossesLeavePuts, LossesLeaveStanding, MetDigestsAreSame, Names, Outlives, Put, PutsStandLast, chosen, digest, home}, Laws.{GivesJust, KeepsBeside, OutOfMemory, StaysKnown, tree_of}, Stores.{LogItem}, Integrities.{Hash, Sha256}}
use Rattle.uses_worlds.specs.Losses.{GivesPut, GoesOn, LinkSurvives, LinkedSurvives, SomeSurvive, Survives, SurvivesAlone}

-- what `?` hands on where memory was refused
pub handed_on : {X : Type 0} (P : Result X Error → Type 0) (r : Result X Error) (e : Error) → IsErrAnd r (λ x. x ≡ e) → e ≡ OutOfMemory → P (Err OutOfMemory) → P r
handed_on P (Ok x) e same is p = absurd same
handed_on P (Err x) e same is p = subst (λ x. P (Err x)) (sym (same ∙ is)) p

-- what it hands on otherwise
pub told_on : {X : Type 0} (P : Result X Error → Type 0) (r : Result X Error) (e : Error) → IsErrAnd r (λ x. x ≡ e) → P (Err e) → P r
told_on P (Ok x) e same p = absurd same
told_on P (Err x) e same p = subst (λ x. P (Err x)) (sym same) p

-- where memory is refused before the read
pub refused : (h : History) (loss : Loss) (key : List ℕ) → Outlives h → FewCalls h → LossesLeavePuts → Survives h loss key (Err OutOfMemory)
refused h loss key outlives few puts folder p here put keyed none =
    let lost = chosen loss.undone.items loss.tails.items in
    let one = (outlives.caches lost).one in
    let left = puts h lost folder key p one.tree outlives few one.left here put keyed none in
    (one.tree, one.left, left.0, left.1, λ last. refl)

-- the put's bytes are read
gives : (p : Put) (bytes : List ℕ) (r : Result (Vec ℕ Global) Error) (old new : List LogItem) → digest p.options.algorithm bytes ≡ digest p.options.algorithm p.data → GivesJust bytes r old new
    → IfErr r (λ e. e ≡ OutOfMemory) → GivesPut p r
gives p bytes (Ok v) old new same is only = ap (digest p.options.algorithm) is ∙ same
gives p bytes (Err e) old new same excused only = only

led : (h : History) (key : List ℕ) (folder : Names) (p : Put) (r : Result (Vec ℕ Global) Error) (old new : List LogItem) → home h.setup ≡ Some folder → LeadsToDigest h.setup.cache key p old → LeftRead h.setup.cache key r old new
    → GivesPut p r
led h key folder p r old new here leads read = gives p leads.bytes r old new leads.same (read.gives _ leads.bytes leads.held) (read.succeeds folder _ leads.bytes here leads.held)

pub survives_here : (h : History) (loss : Loss) (key : List ℕ) (r : Result (Vec ℕ Global) Error) (old new : List LogItem) → Outlives h → FewCalls h → LossesLeavePuts → LossesLeaveStanding
    → LeftBy h loss (tree_of old) → (IsStanding h.setup.cache old → LeftRead h.setup.cache key r old new) → Survives h loss key r
survives_here h loss key r old new outlives few puts stands lost read folder p here put keyed none =
    let chosen_loss = chosen loss.undone.items loss.tails.items in
    let left = puts h chosen_loss folder key p (tree_of old) outlives few lost here put keyed none in
    (tree_of old, lost, left.0, left.1, λ last. led h key folder p r old new here (left.2 last old refl) (read (stands h chosen_loss old outlives lost)))

-- nothing is asked of what is left where nobody appended behind the entry
pub alone_here : (h : History) (loss : Loss) (key : List ℕ) (r : Result (Vec ℕ Global) Error) (old new : List LogItem) → Outlives h → FewCalls h → LossesLeaveLast → LossesLeaveStanding
    → LeftBy h loss (tree_of old) → (IsStanding h.setup.cache old → LeftRead h.setup.cache key r old new) → SurvivesAlone h key r
alone_here h loss key r old new outlives few lasts stands lost read folder p here put keyed none last =
    let chosen_loss = chosen loss.undone.items loss.tails.items in
    let leads = lasts h chosen_loss folder key p (tree_of old) outlives few lost here put keyed none last old refl in
    led h key folder p r old new here leads (read (stands h chosen_loss old outlives lost))

-- ---- where the content may be a link

pub link_here : (h : History) (loss : Loss) (key : List ℕ) (r : Result (Vec ℕ Global) Error) (old new : List LogItem) → Outlives h → LinksOutlast h → FewCalls h → LossesLeaveLastLinks → LossesLeaveStanding
    → LeftBy h loss (tree_of old) → (IsStanding h.setup.cache old → LeftRead h.setup.cache key r old new) → LinkSurvives h key r
link_here h loss key r old new outlives outlast few lasts stands lost read folder p here put keyed none unchanged last =
    let chosen_loss = chosen loss.undone.items loss.tails.items in
    let leads = lasts h chosen_loss folder key p (tree_of old) outlast few lost here put keyed none unchanged last old refl in
    let one = read (stands h chosen_loss old outlives lost) in
    gives p leads.bytes r old new leads.same (one.reads _ leads.bytes leads.leads leads.formed leads.lies) (one.reads_on folder _ leads.bytes here leads.leads leads.formed leads.lies)

-- no step changes a link's target where no call exports or removes
pub linked_too : (h : History) (key : List ℕ) (r : Result (Vec ℕ Global) Error) → LinksOutlast h → LinkSurvives h key r → LinkedSurvives h key r
linked_too h key r outlast survives folder p only here put keyed none last =
    survives folder p here put keyed none (outlast.unchanged only put.before put.rest put.is p) last

-- ---- writes after a loss

-- a key leads to bytes with the digest of a put's, also where others were written at their address
leads_beside : (cache written key added : List ℕ) (own : List Hash) (p : Put) (old new : List LogItem) → MetDigestsAreSame → (key ≡ written → ⊥) → KeepsBeside cache (Some written) own added old new
    → LeadsToDigest cache key p old → LeadsToDigest cache key p new
leads_beside cache written key added own p old new met differ keeps led =
    elim (keeps.key key led.bytes _ differ led.held) [
      | inl stays ↦ record { bytes = led.bytes; same = led.same; held = stays }
      | inr at ↦ record { bytes = added; same = met p.options.algorithm p.data added at.1.content.meets; held = at.1 }
    ]

leads_known : (cache key : List ℕ) (p : Put) (old new : List LogItem) → StaysKnown cache old new → LeadsToDigest cache key p old → LeadsToDigest cache key p new
leads_known cache key p old new known led = record { bytes = led.bytes; same = led.same; held = known.key key led.bytes _ led.held }

-- a world's power goes, and a write and two reads follow
module _ (h : History) (loss : Loss) (written added key : List ℕ) (old late : List LogItem) (outlives : Outlives h) (stands : LossesLeaveStanding) (lost : LeftBy h loss (tree_of old)) where
  here : IsStanding h.setup.cache old
  here = stands h (chosen loss.undone.items loss.tails.items) old outlives lost

  pub write_failed : (e : Error) → (IsStanding h.setup.cache old → LeftWritten Sha256 h.setup.cache written added (Err e) old late) → GoesOn h loss written key (Err e)
  write_failed e write folder p home put keyed none last differ ready = (write here).succeeds (ready old lost)

  module _ (i : List Hash) (write : IsStanding h.setup.cache old → LeftWritten Sha256 h.setup.cache written added (Ok i) old late) where
    wrote : LeftWritten Sha256 h.setup.cache written added (Ok i) old late
    wrote = write here

    pub first_failed : (e : Error) (read : List LogItem) → (IsStanding h.setup.cache late → LeftRead h.setup.cache written (Err e) late read) → GoesOn h loss written key (Err e)
    first_failed e read first folder p home put keyed none last differ ready = (first wrote.standing).succeeds folder i added home wrote.stored.1

    module _ (since : Vec ℕ Global) (read new : List LogItem) (first : IsStanding h.setup.cache late → LeftRead h.setup.cache written (Ok since) late read) where
      one : LeftRead h.setup.cache written (Ok since) late read
      one = first wrote.standing

      pub since_here : since.items ≡ added
      since_here = one.gives i added wrote.stored.1

      module _ (few : FewCalls h) (lasts : LossesLeaveLast) (met : MetDigestsAreSame) where
        -- the put's key still leads to bytes with its digest
        still : (folder : Names) (p : Put) → home h.setup ≡ Some folder → (put : DurablePut h folder p) → p.key ≡ Some key → p.options.integrity ≡ None → IsLast h folder put.rest put.call.caller key p
            → (key ≡ written → ⊥) → LeadsToDigest h.setup.cache key p read
        still folder p home put keyed none last differ =
            let led = lasts h (chosen loss.undone.items loss.tails.items) folder key p (tree_of old) outlives few lost home put keyed none last old refl in
            leads_known h.setup.cache key p late read one.known (leads_beside h.setup.cache written key added _ p old late met differ wrote.keeps led)

        pub second_failed : (e : Error) → (IsStanding h.setup.cache read → LeftRead h.setup.cache key (Err e) read new) → GoesOn h loss written key (Err e)
        second_failed e second folder p home put keyed none last differ ready =
            let led = still folder p home put keyed none last differ in
            (second one.standing).succeeds folder _ led.bytes home led.held

        pub before_here : (before : Vec ℕ Global) → (IsStanding h.setup.cache read → LeftRead h.setup.cache key (Ok before) read new) → GoesOn h loss written key (Ok (record { since = since; before = before }))
        before_here before second folder p home put keyed none last differ =
            let led = still folder p home put keyed none last differ in
            ap (digest p.options.algorithm) ((second one.standing).gives _ led.bytes led.held) ∙ led.same

-- ---- histories of which this speaks

pub some_survive : PutsStandLast → HistoriesOutlive → LossesLeaveLast → SomeSurvive
some_survive stand outlive lasts cache folder key p is stores =
    let s = stand cache folder key p is stores in (
      s.0,
      s.1,
      s.2,
      λ more elsewhere legal few loss log lost.
          let l = s.3 more elsewhere in
          lasts _ (chosen loss.undone.items loss.tails.items) folder key p (tree_of log) (outlive _ legal) few lost l.here l.put l.stores.keyed l.stores.no_integrity l.last log refl,
    )
