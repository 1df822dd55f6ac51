-- Tombstones leave the contents, and hide the keys that led to none and no other.
use Rattle.std.proofs.{Common.{◌≡◌, ◌<◌, ◌^◌, inl, inr, ℕ, Bool, true, false, cond, List, [], ◌∷◌, ◌++◌, Option, None, Some, refl, sym, ap, subst, ◌∙◌, arith}, lemmas.{List.Elements.{All-head, All-tail}, Slice.Eq.{bytes_eq-Decides}, Bool.{not-true, not-false}}}
use Rattle.std.specs.{Prelude.{All, IsUtf8, bytes_eq}, List.{flat_map}}
use Rattle.cacache_core.specs.Paths.{Names, home_of}
use Rattle.cacache_store.specs.declared.store.log.LogItem.{LogItem}
use Rattle.cacache_disk.specs.Tree.{Rooted, Tree, look}
use Rattle.cacache_entry.specs.Bucket.{Found}
use Rattle.cacache_calls.specs.{declared.{command.{Command.{Command}, Delete.{Delete}}, reply.Reply.{Reply}}, Inserting.{deletion, refused_cause}, Licence.{looking_on}, Runs.{Moves, Gains}, Sound.{FormedIfWritten}, State.{Site}}
use Rattle.cacache_calls.proofs.Within.{calls_keep_to}
use Rattle.cacache_calls.specs.declared.command.Command.TheVariants as commands
use Rattle.cacache_calls.specs.declared.reply.Reply.TheVariants as replies
use Rattle.cacache_value.specs.Placed.{Placed}
use Rattle.cacache_laws.specs.{Sequence.{tree_on, AreAnswered}, trees.{Contents.{content_in}, Housed.{Housed, Still}, Verifying.{KeepsContents, found_in, has_content}}}
use Rattle.cacache_laws.proofs.{Putting.Stored.{bare_written}, Readings.Looks.{moves_keep}, trees.{HiddenKeys.{tombstones_hide, moves_rooted, tombstones_house}, Led.{finds_led, found_integrity}, Logged.{answered_rest, answered_split, gains_join, looked, tree_rest, tree_split}, Members.{Member}, Spared.StillThere.{has_still}, Keeping.{tombstones_keep_contents}}}
use Rattle.cacache_sync.specs.Lookups.{delete_of}
use Rattle.cacache_keep.specs.{Calls.{MadeCalls}, Repairing.{Fate, IsFateOf, Led, calls_for, is_buried, leads_nowhere, looks_of, tombstone}}
use Rattle.cacache_keep.proofs.{Repairs.Judged.{there_told}, Stopped.{gains_none}}

formed : (cache key : List ℕ) (moment : ℕ) → IsUtf8 key → moment < 2 ^ 64 → FormedIfWritten (deletion cache (delete_of key moment))
unfolding refused_cause
formed cache key moment utf8 early = λ none. (bare_written key None moment 0 utf8 tt early (omega arith)).formed

made_parts : (site : Site) (calls more : List (Command × Reply)) (old new : Option (List LogItem)) → MadeCalls site (calls ++ more) old new → (mid : Option (List LogItem)) × MadeCalls site calls old mid × MadeCalls site more mid new
made_parts site [] more old new made = (old, refl, made)
made_parts site (c ∷ calls) more old new made = let rest = made_parts site calls more made.0 new made.2 in (rest.0, (made.0, made.1, rest.1), rest.2)

module _ (site : Site) (home : Names) (is : home_of site.cache ≡ Some home) where
  -- ---- what a key leads to

  -- the lookup of the key and the question for its content say what the tree has
  abbrev LedIs : List ℕ → Led → Tree → Type 0
  LedIs key None t = found_in home t key ≡ None
  LedIs key (Some led) t = (found_in home t key ≡ Some led.0) × (led.1 ≡ has_content site.cache t led.0)

  record Looks (key : List ℕ) (led : Led) (old new : Option (List LogItem)) : Type 0 where
    moves : Moves
    gains : Gains old new moves
    stays : (t : Tree) → tree_on t moves ≡ t
    tells : (t : Tree) → Placed (Some home) t → Rooted t → AreAnswered t moves → LedIs key led t

  looks_led : (key : List ℕ) (led : Led) (old new : Option (List LogItem)) → MadeCalls site (looks_of key led) old new → Looks key led old new
  looks_led key None old new made =
      let ran = made.1 in
      let may = calls_keep_to looking_on site (commands.Find key) ran.0 (replies.LookedUp None) tt ran.1 in
      record {
        moves = ran.0;
        gains = subst (λ (log : Option (List LogItem)). Gains old log ran.0) (sym made.2) ran.2;
        stays = λ t. moves_keep t ran.0 may;
        tells = λ t placed rooted a. sym (finds_led site home t is rooted key None placed (looked site t (commands.Find key) (replies.LookedUp None) ran.0 tt ran.1 a).0);
      }
  looks_led key (Some led) old new made =
      let one = made.1 in
      let two = made.2.1 in
      let find_may = calls_keep_to looking_on site (commands.Find key) one.0 (replies.LookedUp (Some led.0)) tt one.1 in
      let ask_may = calls_keep_to looking_on site (commands.Exists led.0.integrity) two.0 (replies.Exists led.1) tt two.1 in
      record {
        moves = one.0 ++ two.0;
        gains = gains_join old made.0 new one.0 two.0 one.2 (subst (λ (log : Option (List LogItem)). Gains made.0 log two.0) (sym made.2.2) two.2);
        stays = λ t. tree_rest t one.0 two.0 (moves_keep t one.0 find_may) ∙ moves_keep t two.0 ask_may;
        tells = λ t placed rooted a.
            let first = looked site t (commands.Find key) (replies.LookedUp (Some led.0)) one.0 tt one.1 (answered_split t one.0 two.0 a).0 in
            let second = looked site t (commands.Exists led.0.integrity) (replies.Exists led.1) two.0 tt two.1 (answered_rest t one.0 two.0 first.1 a) in
            (sym (finds_led site home t is rooted key (Some led.0) placed first.0), there_told site t led.0 led.1 second.0);
      }

  -- it leads to an entry whose content isn't there
  nowhere : (led : Led) (key : List ℕ) (t : Tree) → leads_nowhere led ≡ true → LedIs key led t → (g : Found) × (found_in home t key ≡ Some g) × (has_content site.cache t g ≡ false)
  nowhere None key t e k = absurd cc
  nowhere (Some led) key t e k = (led.0, k.0, sym k.1 ∙ not-true led.1 e)

  -- it leads to nothing, or to an entry whose content is there
  somewhere : (led : Led) (key : List ℕ) (t : Tree) (g : Found) → leads_nowhere led ≡ false → LedIs key led t → found_in home t key ≡ Some g → has_content site.cache t g ≡ true
  somewhere None key t g e k f = let wrong : None ≡ Some g = sym k ∙ f in absurd cc
  somewhere (Some led) key t g e k f =
      let both : Some led.0 ≡ Some g = sym k.0 ∙ f in
      let same : led.0 ≡ g = cc in
      ap (has_content site.cache t) (sym same) ∙ sym k.1 ∙ not-false led.1 e

  -- ---- what tombstones do to a tree

  -- if each thing lies in its place: no key leads to an entry that it didn't lead to, those that led to
  -- a content lead there, and those that were asked for lead to nothing else
  pub record Whole (fates : List (Found × Fate)) (t new : Tree) : Type 0 where
    pub housed : Housed (Some home) new
    pub rooted : Rooted new
    pub still : Still (Some home) t new
    pub back : (key : List ℕ) (g : Found) → found_in home new key ≡ Some g → found_in home t key ≡ Some g
    pub on : (key : List ℕ) (g : Found) → found_in home t key ≡ Some g → has_content site.cache t g ≡ true → found_in home new key ≡ Some g
    pub sound : (f : Found × Fate) (g : Found) → Member f fates → found_in home new f.0.key ≡ Some g → has_content site.cache new g ≡ true

  -- the keys that got tombstones lead to nothing, and all else stays
  pub record After (fates : List (Found × Fate)) (t new : Tree) : Type 0 where
    pub keeps : KeepsContents home t new
    pub none : (key : List ℕ) → found_in home t key ≡ None → found_in home new key ≡ None
    pub hidden : (f : Found × Fate) → Member f fates → is_buried f.1 ≡ true → found_in home new f.0.key ≡ None
    pub keys : (key : List ℕ) → ((f : Found × Fate) → Member f fates → is_buried f.1 ≡ true → key ≡ f.0.key → ⊥) → found_in home new key ≡ found_in home t key
    pub whole : Housed (Some home) t → Rooted t → Whole fates t new

  -- moves that a log gained, and what they do to a tree that answers them
  pub record Told (fates : List (Found × Fate)) (old new : Option (List LogItem)) : Type 0 where
    pub moves : Moves
    pub gains : Gains old new moves
    pub tells : (t : Tree) → Placed (Some home) t → AreAnswered t moves → After fates t (tree_on t moves)

  pub none_behind : (key own : List ℕ) (t new : Tree) (b : Bool) → bytes_eq key own ≡ b → found_in home new own ≡ None → ((other : List ℕ) → (other ≡ own → ⊥) → found_in home new other ≡ found_in home t other) → found_in home t key ≡ None → found_in home new key ≡ None
  none_behind key own t new true e hidden others none = ap (found_in home new) ((bytes_eq-Decides key own).0 e) ∙ hidden
  none_behind key own t new false e hidden others none =
      others key (λ same. let wrong : false ≡ true = sym e ∙ (bytes_eq-Decides key own).1 same in cc) ∙ none

  -- ---- a key that is spared

  spared : (f : Found × Fate) (t new : Tree) → is_buried f.1 ≡ false → IsFateOf f → LedIs f.1.key f.1.led t → new ≡ t → Housed (Some home) t → Rooted t → Whole (f ∷ []) t new
  spared f t new b of led same housed rooted = record {
    housed = subst (Housed (Some home)) (sym same) housed;
    rooted = subst Rooted (sym same) rooted;
    still = λ q node k there. ap (λ x. look x q) same ∙ there;
    back = λ key g e. ap (λ x. found_in home x key) (sym same) ∙ e;
    on = λ key g e has. ap (λ x. found_in home x key) same ∙ e;
    sound = λ h g m e. elim m [
      | inl is_f ↦
          let at : found_in home t f.1.key ≡ Some g = ap (found_in home t) (of.0 ∙ ap (λ (x : Found × Fate). x.0.key) (sym is_f)) ∙ ap (λ x. found_in home x h.0.key) (sym same) ∙ e in
          ap (λ x. has_content site.cache x g) same ∙ somewhere f.1.led f.1.key t g b led at
      | inr n ↦ absurd n
    ];
  }

  spares : (f : Found × Fate) (t new : Tree) → is_buried f.1 ≡ false → IsFateOf f → (Housed (Some home) t → Rooted t → LedIs f.1.key f.1.led t) → Placed (Some home) t → new ≡ t → After (f ∷ []) t new
  spares f t new b of led placed same = record {
    keeps = record { placed = subst (Placed (Some home)) (sym same) placed; contents = λ h. ap (λ x. content_in home x h) same };
    none = λ key e. ap (λ x. found_in home x key) same ∙ e;
    hidden = λ g m buried. elim m [ inl e ↦ absurd (let wrong : false ≡ true = sym b ∙ ap (λ (x : Found × Fate). is_buried x.1) (sym e) ∙ buried in cc) | inr n ↦ absurd n ];
    keys = λ key apart. ap (λ x. found_in home x key) same;
    whole = λ housed rooted. spared f t new b of (led housed rooted) same housed rooted;
  }

  -- ---- a key that is hidden

  module _ (f : Found × Fate) (t new : Tree) (of : IsFateOf f) (own : found_in home new f.1.key ≡ None) (others : (other : List ℕ) → (other ≡ f.1.key → ⊥) → found_in home new other ≡ found_in home t other) where
    back_at : (key : List ℕ) (g : Found) (b : Bool) → bytes_eq key f.1.key ≡ b → found_in home new key ≡ Some g → found_in home t key ≡ Some g
    back_at key g true e found = let wrong : None ≡ Some g = sym own ∙ ap (found_in home new) (sym ((bytes_eq-Decides key f.1.key).0 e)) ∙ found in absurd cc
    back_at key g false e found = sym (others key (λ same. let wrong : false ≡ true = sym e ∙ (bytes_eq-Decides key f.1.key).1 same in cc)) ∙ found

    on_at : (key : List ℕ) (g h : Found) (b : Bool) → bytes_eq key f.1.key ≡ b → found_in home t f.1.key ≡ Some h → has_content site.cache t h ≡ false → found_in home t key ≡ Some g → has_content site.cache t g ≡ true → found_in home new key ≡ Some g
    on_at key g h true e led lacks found has =
        let both : Some h ≡ Some g = sym led ∙ ap (found_in home t) (sym ((bytes_eq-Decides key f.1.key).0 e)) ∙ found in
        let same : h ≡ g = cc in
        let wrong : false ≡ true = sym lacks ∙ ap (has_content site.cache t) same ∙ has in
        absurd cc
    on_at key g h false e led lacks found has = others key (λ same. let wrong : false ≡ true = sym e ∙ (bytes_eq-Decides key f.1.key).1 same in cc) ∙ found

    hidden_whole : is_buried f.1 ≡ true → LedIs f.1.key f.1.led t → Housed (Some home) new → Rooted new → Still (Some home) t new → Whole (f ∷ []) t new
    hidden_whole b led housed rooted still =
        let n = nowhere f.1.led f.1.key t b led in
        record {
          housed = housed;
          rooted = rooted;
          still = still;
          back = λ key g e. back_at key g (bytes_eq key f.1.key) refl e;
          on = λ key g e has. on_at key g n.0 (bytes_eq key f.1.key) refl n.1 n.2 e has;
          sound = λ h g m e. elim m [
            | inl is_f ↦
                let wrong : None ≡ Some g = sym own ∙ ap (found_in home new) (of.0 ∙ ap (λ (x : Found × Fate). x.0.key) (sym is_f)) ∙ e in
                absurd cc
            | inr k ↦ absurd k
          ];
        }

    hides_one : is_buried f.1 ≡ true → KeepsContents home t new → (Housed (Some home) t → Rooted t → Whole (f ∷ []) t new) → After (f ∷ []) t new
    hides_one b keeps whole = record {
      keeps = keeps;
      none = λ key e. none_behind key f.1.key t new (bytes_eq key f.1.key) refl own others e;
      hidden = λ g m buried. elim m [ inl e ↦ ap (λ (x : Found × Fate). found_in home new x.0.key) e ∙ ap (found_in home new) (sym of.0) ∙ own | inr n ↦ absurd n ];
      keys = λ key apart. others key (λ same. apart f (inl refl) b (same ∙ of.0));
      whole = whole;
    }

  -- ---- one key

  one_told : (f : Found × Fate) (old new : Option (List LogItem)) (b : Bool) → is_buried f.1 ≡ b → IsFateOf f → MadeCalls site (looks_of f.1.key f.1.led ++ cond b (tombstone f.1.key f.1.moment ∷ []) []) old new → Told (f ∷ []) old new
  one_told f old new false e of made =
      let parts = made_parts site (looks_of f.1.key f.1.led) [] old new made in
      let looks = looks_led f.1.key f.1.led old parts.0 parts.1 in
      record {
        moves = looks.moves;
        gains = subst (λ (log : Option (List LogItem)). Gains old log looks.moves) (sym parts.2) looks.gains;
        tells = λ t placed a. spares f t (tree_on t looks.moves) e of (λ housed rooted. looks.tells t placed rooted a) placed (looks.stays t);
      }
  one_told f old new true e of made =
      let parts = made_parts site (looks_of f.1.key f.1.led) (tombstone f.1.key f.1.moment ∷ []) old new made in
      let looks = looks_led f.1.key f.1.led old parts.0 parts.1 in
      let d : Delete = delete_of f.1.key f.1.moment in
      let ran = parts.2.1 in
      let behind = subst (λ (log : Option (List LogItem)). Gains parts.0 log ran.0) (sym parts.2.2) ran.2 in
      record {
        moves = looks.moves ++ ran.0;
        gains = gains_join old parts.0 new looks.moves ran.0 looks.gains behind;
        tells = λ t placed a.
            let answered = answered_rest t looks.moves ran.0 (looks.stays t) a in
            let may = formed site.cache f.1.key f.1.moment of.1 of.2 in
            let keeps = tombstones_keep_contents site home (delete_of f.1.key f.1.moment) replies.Done ran.0 t is may ran.1 answered placed in
            let hides = tombstones_hide site home (delete_of f.1.key f.1.moment) ran.0 t is may ran.1 answered placed in
            let whole : Housed (Some home) t → Rooted t → Whole (f ∷ []) t (tree_on t ran.0)
            = λ housed rooted.
            let house = tombstones_house site home (delete_of f.1.key f.1.moment) ran.0 t is may ran.1 answered housed in
            hidden_whole f t (tree_on t ran.0) of hides.own hides.others e (looks.tells t placed rooted (answered_split t looks.moves ran.0 a).0) house.0 (moves_rooted ran.0 t rooted) house.1 in
            subst (After (f ∷ []) t) (sym (tree_rest t looks.moves ran.0 (looks.stays t))) (hides_one f t (tree_on t ran.0) of hides.own hides.others e keeps whole);
      }

  -- ---- all keys

  -- a content that is there is there still
  there_still : (t new : Tree) (key : List ℕ) (g : Found) → Housed (Some home) t → Rooted t → Rooted new → Still (Some home) t new → KeepsContents home t new → found_in home t key ≡ Some g → has_content site.cache t g ≡ true → has_content site.cache new g ≡ true
  there_still t new key g housed rooted left still keeps e has =
      has_still site.cache home is t new still housed.placed g.integrity rooted left (found_integrity home t key g housed e) keeps.contents has

  two_whole : (f : Found × Fate) (fates : List (Found × Fate)) (t mid new : Tree) → After (f ∷ []) t mid → After fates mid new → Housed (Some home) t → Rooted t → Whole (f ∷ fates) t new
  two_whole f fates t mid new one rest housed rooted =
      let a = one.whole housed rooted in
      let b = rest.whole a.housed a.rooted in
      record {
        housed = b.housed;
        rooted = b.rooted;
        still = λ q node k there. b.still q node k (a.still q node k there);
        back = λ key g e. a.back key g (b.back key g e);
        on = λ key g e has. b.on key g (a.on key g e has) (there_still t mid key g housed rooted a.rooted a.still one.keeps e has);
        sound = λ h g m e. elim m [
          | inl is_f ↦ (let before = b.back h.0.key g e in there_still mid new h.0.key g a.housed a.rooted b.rooted b.still rest.keeps before (a.sound h g (inl is_f) before))
          | inr n ↦ b.sound h g n e
        ];
      }

  two_told : (f : Found × Fate) (fates : List (Found × Fate)) (t mid new : Tree) → After (f ∷ []) t mid → After fates mid new → After (f ∷ fates) t new
  two_told f fates t mid new one rest = record {
    keeps = record { placed = rest.keeps.placed; contents = λ h. rest.keeps.contents h ∙ one.keeps.contents h };
    none = λ key e. rest.none key (one.none key e);
    hidden = λ g m b. elim m [ inl e ↦ rest.none g.0.key (one.hidden g (inl e) b) | inr n ↦ rest.hidden g n b ];
    keys = λ key apart. rest.keys key (λ g m b. apart g (inr m) b) ∙ one.keys key (λ g m b. elim m [ inl e ↦ apart g (inl e) b | inr n ↦ absurd n ]);
    whole = two_whole f fates t mid new one rest;
  }

  pub all_told : (fates : List (Found × Fate)) (old new : Option (List LogItem)) → All IsFateOf fates → MadeCalls site (flat_map (λ f. calls_for f.1) fates) old new → Told fates old new
  all_told [] old new of made = record {
    moves = [];
    gains = gains_none old new made;
    tells = λ t placed a. record {
      keeps = record { placed = placed; contents = λ h. refl };
      none = λ key e. e;
      hidden = λ f m b. absurd m;
      keys = λ key apart. refl;
      whole = λ housed rooted. record {
        housed = housed;
        rooted = rooted;
        still = λ q node k there. there;
        back = λ key g e. e;
        on = λ key g e has. e;
        sound = λ f g m e. absurd m;
      };
    };
  }
  all_told (f ∷ fates) old new of made =
      let parts = made_parts site (calls_for f.1) (flat_map (λ f. calls_for f.1) fates) old new made in
      let one = one_told f old parts.0 (is_buried f.1) refl (All-head IsFateOf f fates of) parts.1 in
      let rest = all_told fates parts.0 new (All-tail IsFateOf f fates of) parts.2 in
      record {
        moves = one.moves ++ rest.moves;
        gains = gains_join old parts.0 new one.moves rest.moves one.gains rest.gains;
        tells = λ t placed a.
            let both = answered_split t one.moves rest.moves a in
            let first = one.tells t placed both.0 in
            subst (After (f ∷ fates) t) (sym (tree_split t one.moves rest.moves)) (two_told f fates t (tree_on t one.moves) (tree_on (tree_on t one.moves) rest.moves) first (rest.tells (tree_on t one.moves) first.keeps.placed both.1));
      }
