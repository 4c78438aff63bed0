-- Climbs rise, stay inside and have one end; the climb of sure from no atom is the least that sure keeps.
use Rattle.std.proofs.Common.{◌≡◌, ℕ, ◌<◌, sym, refl, ◌∙◌, subst}
use Rattle.atoms.specs.Sets.{Within, all_below}
use Rattle.atoms.proofs.Inclusion.{within_refl, within_trans, zero_within, within_eq, within_lt, below_within}
use Rattle.approx.specs.Meanings.{Meaning}
use Rattle.approx.specs.Settling.{Climbs, rests, goes, Rises}
use Rattle.approx.proofs.Laws.{Lawful}

-- a climb ends where f rests
pub climb_rests : {f : ℕ → ℕ} {c d : ℕ} → Climbs f c d → f d ≡ d
climb_rests (rests e) = e
climb_rests (goes n r) = climb_rests r

-- a climb has one end
pub climb_one : {f : ℕ → ℕ} {c d e : ℕ} → Climbs f c d → Climbs f c e → d ≡ e
climb_one (rests p) (rests q) = refl
climb_one (rests p) (goes n r) = absurd (n p)
climb_one (goes n r) (rests q) = absurd (n q)
climb_one (goes n r) (goes m s) = climb_one r s

-- what f keeps holds at the end
pub climb_keeps : {f : ℕ → ℕ} {c d : ℕ} → (P : ℕ → Type 0) → ((x : ℕ) → P x → P (f x)) → P c → Climbs f c d → P d
climb_keeps P k h (rests e) = h
climb_keeps {f} {c} P k h (goes n r) = climb_keeps P k (k c h) r

module _ {m : Meaning} (laws : Lawful m) where
  -- sure grows with its lower, and as its upper shrinks; may the other way round
  pub sure_up : {l k u : ℕ} → Within l k → Within k u → Within (m.sure l u) (m.sure k u)
  sure_up {l} {k} {u} p q = (laws.precise l k u u p q (within_refl u)).0

  pub sure_down : {l v u : ℕ} → Within l v → Within v u → Within (m.sure l u) (m.sure l v)
  sure_down {l} {v} {u} p q = (laws.precise l l v u (within_refl l) p q).0

  pub may_up : {l v u : ℕ} → Within l v → Within v u → Within (m.may l v) (m.may l u)
  may_up {l} {v} {u} p q = (laws.precise l l v u (within_refl l) p q).1

  pub may_down : {l k u : ℕ} → Within l k → Within k u → Within (m.may k u) (m.may l u)
  may_down {l} {k} {u} p q = (laws.precise l k u u p q (within_refl u)).1

  -- sure is within may, by the step between them
  pub sure_in_may : {l k v u : ℕ} → Within l k → Within k v → Within v u → Within (m.sure l u) (m.may k v)
  sure_in_may {l} {k} {v} {u} p q r =
      within_trans (laws.precise l v v u (within_trans p q) (within_refl v) r).0
      (within_trans (within_eq (laws.exact v)) (may_down q (within_refl v)))

  -- ---- the climb to a lower, under an upper whose step is within it
  pub lower_in : {u d : ℕ} → Within (m.sure u u) u → Climbs (λ c. m.sure c u) 0 d → Within d u
  lower_in {u} p r = climb_keeps (λ x. Within x u) (λ x h. within_trans (sure_up h (within_refl u)) p) (zero_within u) r

  -- its end is within every x within the upper that sure keeps
  pub lower_least : {u d x : ℕ} → Within x u → Within (m.sure x u) x → Climbs (λ c. m.sure c u) 0 d → Within d x
  lower_least {u} {d} {x} p q r = climb_keeps (λ y. Within y x) (λ y h. within_trans (sure_up h p) q) (zero_within x) r

  -- ---- the climb to an upper, from a lower that may keeps
  pub upper_above : {l d : ℕ} → Within l (m.may l l) → Climbs (λ c. m.may l c) l d → Within l d
  upper_above {l} p r = climb_keeps (λ x. Within l x) (λ x h. within_trans p (may_up (within_refl l) h)) (within_refl l) r

  pub upper_in : {l d u : ℕ} → Within l (m.may l l) → Within l u → Within (m.may l u) u → Climbs (λ c. m.may l c) l d → Within d u
  upper_in {l} {d} {u} a p q r =
      (climb_keeps (λ x. Within l x × Within x u) (λ x h. (within_trans a (may_up (within_refl l) h.0), within_trans (may_up h.0 h.1) q))
      (within_refl l, p) r).1

  -- ---- both climbs rise
  pub sure_rises : (u : ℕ) → Within (m.sure u u) u → Rises (λ c. m.sure c u) 0 u
  sure_rises u p = record { room = zero_within u; starts = zero_within (m.sure 0 u); stays = p; grows = λ c d h i k. sure_up i k }

  pub may_rises : (l : ℕ) → Within l (m.may l l) → Rises (λ c. m.may l c) l (all_below m.width)
  may_rises l p =
      let room : Within l (all_below m.width) = within_trans p (below_within m.width (laws.below l l (within_refl l)).1) in
      record { room = room; starts = p; stays = below_within m.width (laws.below l (all_below m.width) room).1; grows = λ c d h i k. may_up h i }

-- ---- climbing as a loop does it
-- the climb has come to c: over the start, within the top and what follows c, and on the way from the start
pub record Way (f : ℕ → ℕ) (start top c : ℕ) : Type 0 where
  pub over : Within start c
  pub under : Within c top
  pub rises : Within c (f c)
  pub leads : (d : ℕ) → Climbs f c d → Climbs f start d

module _ {f : ℕ → ℕ} {start top : ℕ} (r : Rises f start top) where
  pub way_start : Way f start top start
  way_start = record { over = within_refl start; under = r.room; rises = r.starts; leads = λ d t. t }

  module _ {c d : ℕ} (w : Way f start top c) (e : d ≡ f c) where
    pub way_turn : (d ≡ c → ⊥) → Way f start top d
    way_turn n =
        let under : Within (f c) top = within_trans (r.grows c top w.over w.under (within_refl top)) r.stays in
        subst (Way f start top) (sym e) (record {
          over = within_trans w.over w.rises;
          under = under;
          rises = r.grows c (f c) w.over w.rises under;
          leads = λ b t. w.leads b (goes (λ q. n (e ∙ q)) t);
        })

    pub way_end : d ≡ c → Climbs f start c
    way_end n = w.leads c (rests (sym e ∙ n))

    pub way_less : (d ≡ c → ⊥) → c < d
    way_less n = within_lt (within_trans w.rises (within_eq (sym e))) (λ q. n (sym q))

-- ---- the same of each of the two climbs, where a way is known of it and not that it rises to a top
-- the climb to a lower has come to c: a question under u, within what follows it, and on the way from no atom
pub record LowerWay (m : Meaning) (u c : ℕ) : Type 0 where
  pub inside : Within c u
  pub rises : Within c (m.sure c u)
  pub leads : (d : ℕ) → Climbs (λ x. m.sure x u) c d → Climbs (λ x. m.sure x u) 0 d

-- the climb to an upper has come to c: a question over l, within what follows it, and on the way from l
pub record UpperWay (m : Meaning) (l c : ℕ) : Type 0 where
  pub over : Within l c
  pub rises : Within c (m.may l c)
  pub leads : (d : ℕ) → Climbs (λ x. m.may l x) c d → Climbs (λ x. m.may l x) l d

module _ {m : Meaning} (laws : Lawful m) where
  pub lower_start : (u : ℕ) → LowerWay m u 0
  lower_start u = record { inside = zero_within u; rises = zero_within (m.sure 0 u); leads = λ d r. r }

  module _ {u c d : ℕ} (w : LowerWay m u c) (e : d ≡ m.sure c u) where
    pub lower_turn : Within (m.sure u u) u → (d ≡ c → ⊥) → LowerWay m u d
    lower_turn p n =
        let step : Within (m.sure c u) u = within_trans (sure_up laws w.inside (within_refl u)) p in
        let up : Within (m.sure c u) (m.sure (m.sure c u) u) = sure_up laws w.rises step in
        subst (LowerWay m u) (sym e) (record { inside = step; rises = up; leads = λ d r. w.leads d (goes (λ q. n (e ∙ q)) r) })

    pub lower_end : d ≡ c → Climbs (λ x. m.sure x u) 0 c
    lower_end n = w.leads c (rests (sym e ∙ n))

    pub lower_less : (d ≡ c → ⊥) → c < d
    lower_less n = within_lt (within_trans w.rises (within_eq (sym e))) (λ q. n (sym q))

  pub upper_start : (l : ℕ) → Within l (m.may l l) → UpperWay m l l
  upper_start l p = record { over = within_refl l; rises = p; leads = λ d r. r }

  module _ {l c d : ℕ} (w : UpperWay m l c) (e : d ≡ m.may l c) where
    pub upper_turn : (d ≡ c → ⊥) → UpperWay m l d
    upper_turn n =
        let up : Within (m.may l c) (m.may l (m.may l c)) = may_up laws w.over w.rises in
        subst (UpperWay m l) (sym e) (record { over = within_trans w.over w.rises; rises = up; leads = λ d r. w.leads d (goes (λ q. n (e ∙ q)) r) })

    pub upper_end : d ≡ c → Climbs (λ x. m.may l x) l c
    upper_end n = w.leads c (rests (sym e ∙ n))

    pub upper_less : (d ≡ c → ⊥) → c < d
    upper_less n = within_lt (within_trans w.rises (within_eq (sym e))) (λ q. n (sym q))
