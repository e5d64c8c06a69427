use Rattle.std.proofs.Common.{◌≡◌, ◌≢◌, ℕ, ◌-◌, ◌<◌, refl, sym, ap, ◌∙◌, subst, arith, inl, inr}
use Rattle.pool_tiles.specs.Tiling.{block_length}
use Rattle.ada_final.specs.Linked.{places}
use Rattle.ada_final.specs.declared.chain.Chain.{Chain}
use Rattle.ada_final.proofs.Following.{length_followed, taken_in, not_empty, neighbour, Sets, sets_by, sets_none, detach_done}
use Rattle.ada_final.proofs.chain.Chain.detach.Goals as goal
use Rattle.ada_final.proofs.chain.Chain.detach.Goals.{then-newer-eq0, else-newer-eq0, then-older-ne0, else-older-ne0}

pub link-older-requires : goal.link-older-requires
link-older-requires g c =
    let w = g.P.Pool.user_word c.args.pool.now in let h = c.requires.chain in
    let first = taken_in (g.P.Pool.tiling c.args.pool.now) (places w c.args.self.now) c.args.place.0 h.taken c.requires.inside in let long = first.0 in (omega arith, omega arith)

pub link-newer-requires : goal.link-newer-requires
link-newer-requires g c =
    let w = g.P.Pool.user_word c.args.pool.now in let h = c.requires.chain in
    let first = taken_in (g.P.Pool.tiling c.args.pool.now) (places w c.args.self.now) c.args.place.0 h.taken c.requires.inside in let long = first.0 in (omega arith, omega arith)

pub set_link-requires : goal.set_link-requires
set_link-requires g c =
    let t0 = g.P.Pool.tiling c.args.pool.now in let w = g.P.Pool.user_word c.args.pool.now in let place = c.args.place.0 in
    let older_is : c.link-older.result ≡ w place 0 = c.link-older.ensures in let newer_is : c.link-newer.result ≡ w place 1 = c.link-newer.ensures in
    let h = c.requires.chain in let first = taken_in t0 (places w c.args.self.now) place h.taken c.requires.inside in let long = first.0 in
    let some = c.if-newer-eq0.false in let name = c.link-newer.result in
    let near = neighbour t0 w c.args.self.now place name h c.requires.inside (inr newer_is) (name - 1) (omega arith) in
    let taken = (taken_in t0 (places w c.args.self.now) (name - 1) h.taken near).0 in (omega arith, omega arith)

pub set_link-requires-then-older-ne0 : goal.set_link-requires-then-older-ne0
set_link-requires-then-older-ne0 g c =
    let t0 = g.P.Pool.tiling c.args.pool.now in let w = g.P.Pool.user_word c.args.pool.now in let place = c.args.place.0 in
    let older_is : c.link-older.result ≡ w place 0 = c.link-older.ensures in let newer_is : c.link-newer.result ≡ w place 1 = c.link-newer.ensures in
    let h = c.requires.chain in let first = taken_in t0 (places w c.args.self.now) place h.taken c.requires.inside in let long = first.0 in
    let t1 = g.P.Pool.tiling c.if-newer-eq0.pool in let u = g.P.Pool.user_word c.if-newer-eq0.pool in
    let beside = elim c.if-newer-eq0.branch as (λ _. (t1 ≡ t0) × Sets t0 w u (w place 1) 0 (w place 0)) [
      | then-newer-eq0 x ↦ let zero_is = x.if-newer-eq0.true in
          subst (λ q. (g.P.Pool.tiling q ≡ t0) × Sets t0 w (g.P.Pool.user_word q) (w place 1) 0 (w place 0)) (sym x.pool-is) (refl, sets_none t0 w (w place 1) 0 (w place 0) (omega arith))
      | else-newer-eq0 x ↦ let ne = x.if-newer-eq0.false in let e = x.set_link.ensures in
          subst (λ q. (g.P.Pool.tiling q ≡ t0) × Sets t0 w (g.P.Pool.user_word q) (w place 1) 0 (w place 0)) (sym x.pool-is) (
            e.tiling,
            subst (λ (k : ℕ × ℕ). Sets t0 w (g.P.Pool.user_word x.set_link.new.self) k.0 0 k.1) (λ j. (newer_is j, older_is j))
                (sets_by t0 (g.P.Pool.tiling x.set_link.new.self) w (g.P.Pool.user_word x.set_link.new.self) c.link-newer.result 0 c.link-older.result (omega arith) e.tiling e.written e.kept),
          )
    ] in
    let some = c.if-older-ne0.true in let name = c.link-older.result in
    let near = neighbour t0 w c.args.self.now place name h c.requires.inside (inl older_is) (name - 1) (omega arith) in
    let taken = (taken_in t0 (places w c.args.self.now) (name - 1) h.taken near).0 in
    (subst (λ t. 0 < block_length t (name - 1)) (sym beside.0) (omega arith), omega arith)

pub returns-clause-chain : goal.returns-clause-chain
returns-clause-chain g c =
    let t0 = g.P.Pool.tiling c.args.pool.now in let w = g.P.Pool.user_word c.args.pool.now in let place = c.args.place.0 in
    let older_is : c.link-older.result ≡ w place 0 = c.link-older.ensures in let newer_is : c.link-newer.result ≡ w place 1 = c.link-newer.ensures in
    let h = c.requires.chain in let first = taken_in t0 (places w c.args.self.now) place h.taken c.requires.inside in let long = first.0 in
    let t1 = g.P.Pool.tiling c.if-newer-eq0.pool in let u = g.P.Pool.user_word c.if-newer-eq0.pool in
    let beside = elim c.if-newer-eq0.branch as (λ _. (t1 ≡ t0) × Sets t0 w u (w place 1) 0 (w place 0)) [
      | then-newer-eq0 x ↦ let zero_is = x.if-newer-eq0.true in
          subst (λ q. (g.P.Pool.tiling q ≡ t0) × Sets t0 w (g.P.Pool.user_word q) (w place 1) 0 (w place 0)) (sym x.pool-is) (refl, sets_none t0 w (w place 1) 0 (w place 0) (omega arith))
      | else-newer-eq0 x ↦ let ne = x.if-newer-eq0.false in let e = x.set_link.ensures in
          subst (λ q. (g.P.Pool.tiling q ≡ t0) × Sets t0 w (g.P.Pool.user_word q) (w place 1) 0 (w place 0)) (sym x.pool-is) (
            e.tiling,
            subst (λ (k : ℕ × ℕ). Sets t0 w (g.P.Pool.user_word x.set_link.new.self) k.0 0 k.1) (λ j. (newer_is j, older_is j))
                (sets_by t0 (g.P.Pool.tiling x.set_link.new.self) w (g.P.Pool.user_word x.set_link.new.self) c.link-newer.result 0 c.link-older.result (omega arith) e.tiling e.written e.kept),
          )
    ] in
    let t2 = g.P.Pool.tiling c.if-older-ne0.pool in let v = g.P.Pool.user_word c.if-older-ne0.pool in
    let last = elim c.if-older-ne0.branch as (λ _. (t2 ≡ t1) × Sets t0 u v (w place 0) 1 (w place 1)) [
      | then-older-ne0 x ↦ let ne = x.if-older-ne0.true in let e = x.set_link-then-older-ne0.ensures in
          subst (λ q. (g.P.Pool.tiling q ≡ t1) × Sets t0 u (g.P.Pool.user_word q) (w place 0) 1 (w place 1)) (sym x.pool-is) (
            e.tiling,
            subst (λ (k : ℕ × ℕ). Sets t0 u (g.P.Pool.user_word x.set_link-then-older-ne0.new.self) k.0 1 k.1) (λ j. (older_is j, newer_is j))
                (sets_by t0 (g.P.Pool.tiling x.set_link-then-older-ne0.new.self) u (g.P.Pool.user_word x.set_link-then-older-ne0.new.self) c.link-older.result 1 c.link-newer.result (omega arith)
                (e.tiling ∙ beside.0) e.written e.kept),
          )
      | else-older-ne0 x ↦ let zero_is = x.if-older-ne0.false in
          subst (λ q. (g.P.Pool.tiling q ≡ t1) × Sets t0 u (g.P.Pool.user_word q) (w place 0) 1 (w place 1)) (sym x.pool-is) (refl, sets_none t0 u (w place 0) 1 (w place 1) (omega arith))
    ] in
    let now = c.if-newer-eq0.self in
    let told = elim c.if-newer-eq0.branch as (λ _. (now.left ≡ c.args.self.now.left) × (w place 1 ≡ 0 → now.newest ≡ w place 0) × (w place 1 ≢ 0 → now.newest ≡ c.args.self.now.newest)) [
      | then-newer-eq0 x ↦ let zero_is = x.if-newer-eq0.true in
          (ap (λ (k : Chain). k.left) x.self-is, (λ e. ap (λ (k : Chain). k.newest) x.self-is ∙ older_is), (λ ne. absurd (ne (sym newer_is ∙ zero_is))))
      | else-newer-eq0 x ↦ let some = x.if-newer-eq0.false in
          (ap (λ (k : Chain). k.left) x.self-is, (λ e. absurd (omega arith)), (λ ne. ap (λ (k : Chain). k.newest) x.self-is))
    ] in
    let d : Chain = record { newest = now.newest; left = now.left - 1 } in
    let count = length_followed c.args.self.now.left c.args.self.now.newest w in let some = not_empty place (places w c.args.self.now) c.requires.inside in let as_many = told.0 in
    (detach_done t0 t1 t2 w u v c.args.self.now d place h c.requires.inside beside.0 beside.1 last.0 last.1 (omega arith) told.1 told.2).chain

pub returns-clause-places : goal.returns-clause-places
returns-clause-places g c =
    let t0 = g.P.Pool.tiling c.args.pool.now in let w = g.P.Pool.user_word c.args.pool.now in let place = c.args.place.0 in
    let older_is : c.link-older.result ≡ w place 0 = c.link-older.ensures in let newer_is : c.link-newer.result ≡ w place 1 = c.link-newer.ensures in
    let h = c.requires.chain in let first = taken_in t0 (places w c.args.self.now) place h.taken c.requires.inside in let long = first.0 in
    let t1 = g.P.Pool.tiling c.if-newer-eq0.pool in let u = g.P.Pool.user_word c.if-newer-eq0.pool in
    let beside = elim c.if-newer-eq0.branch as (λ _. (t1 ≡ t0) × Sets t0 w u (w place 1) 0 (w place 0)) [
      | then-newer-eq0 x ↦ let zero_is = x.if-newer-eq0.true in
          subst (λ q. (g.P.Pool.tiling q ≡ t0) × Sets t0 w (g.P.Pool.user_word q) (w place 1) 0 (w place 0)) (sym x.pool-is) (refl, sets_none t0 w (w place 1) 0 (w place 0) (omega arith))
      | else-newer-eq0 x ↦ let ne = x.if-newer-eq0.false in let e = x.set_link.ensures in
          subst (λ q. (g.P.Pool.tiling q ≡ t0) × Sets t0 w (g.P.Pool.user_word q) (w place 1) 0 (w place 0)) (sym x.pool-is) (
            e.tiling,
            subst (λ (k : ℕ × ℕ). Sets t0 w (g.P.Pool.user_word x.set_link.new.self) k.0 0 k.1) (λ j. (newer_is j, older_is j))
                (sets_by t0 (g.P.Pool.tiling x.set_link.new.self) w (g.P.Pool.user_word x.set_link.new.self) c.link-newer.result 0 c.link-older.result (omega arith) e.tiling e.written e.kept),
          )
    ] in
    let t2 = g.P.Pool.tiling c.if-older-ne0.pool in let v = g.P.Pool.user_word c.if-older-ne0.pool in
    let last = elim c.if-older-ne0.branch as (λ _. (t2 ≡ t1) × Sets t0 u v (w place 0) 1 (w place 1)) [
      | then-older-ne0 x ↦ let ne = x.if-older-ne0.true in let e = x.set_link-then-older-ne0.ensures in
          subst (λ q. (g.P.Pool.tiling q ≡ t1) × Sets t0 u (g.P.Pool.user_word q) (w place 0) 1 (w place 1)) (sym x.pool-is) (
            e.tiling,
            subst (λ (k : ℕ × ℕ). Sets t0 u (g.P.Pool.user_word x.set_link-then-older-ne0.new.self) k.0 1 k.1) (λ j. (older_is j, newer_is j))
                (sets_by t0 (g.P.Pool.tiling x.set_link-then-older-ne0.new.self) u (g.P.Pool.user_word x.set_link-then-older-ne0.new.self) c.link-older.result 1 c.link-newer.result (omega arith)
                (e.tiling ∙ beside.0) e.written e.kept),
          )
      | else-older-ne0 x ↦ let zero_is = x.if-older-ne0.false in
          subst (λ q. (g.P.Pool.tiling q ≡ t1) × Sets t0 u (g.P.Pool.user_word q) (w place 0) 1 (w place 1)) (sym x.pool-is) (refl, sets_none t0 u (w place 0) 1 (w place 1) (omega arith))
    ] in
    let now = c.if-newer-eq0.self in
    let told = elim c.if-newer-eq0.branch as (λ _. (now.left ≡ c.args.self.now.left) × (w place 1 ≡ 0 → now.newest ≡ w place 0) × (w place 1 ≢ 0 → now.newest ≡ c.args.self.now.newest)) [
      | then-newer-eq0 x ↦ let zero_is = x.if-newer-eq0.true in
          (ap (λ (k : Chain). k.left) x.self-is, (λ e. ap (λ (k : Chain). k.newest) x.self-is ∙ older_is), (λ ne. absurd (ne (sym newer_is ∙ zero_is))))
      | else-newer-eq0 x ↦ let some = x.if-newer-eq0.false in
          (ap (λ (k : Chain). k.left) x.self-is, (λ e. absurd (omega arith)), (λ ne. ap (λ (k : Chain). k.newest) x.self-is))
    ] in
    let d : Chain = record { newest = now.newest; left = now.left - 1 } in
    let count = length_followed c.args.self.now.left c.args.self.now.newest w in let some = not_empty place (places w c.args.self.now) c.requires.inside in let as_many = told.0 in
    (detach_done t0 t1 t2 w u v c.args.self.now d place h c.requires.inside beside.0 beside.1 last.0 last.1 (omega arith) told.1 told.2).is

pub returns-clause-others : goal.returns-clause-others
returns-clause-others g c =
    let t0 = g.P.Pool.tiling c.args.pool.now in let w = g.P.Pool.user_word c.args.pool.now in let place = c.args.place.0 in
    let older_is : c.link-older.result ≡ w place 0 = c.link-older.ensures in let newer_is : c.link-newer.result ≡ w place 1 = c.link-newer.ensures in
    let h = c.requires.chain in let first = taken_in t0 (places w c.args.self.now) place h.taken c.requires.inside in let long = first.0 in
    let t1 = g.P.Pool.tiling c.if-newer-eq0.pool in let u = g.P.Pool.user_word c.if-newer-eq0.pool in
    let beside = elim c.if-newer-eq0.branch as (λ _. (t1 ≡ t0) × Sets t0 w u (w place 1) 0 (w place 0)) [
      | then-newer-eq0 x ↦ let zero_is = x.if-newer-eq0.true in
          subst (λ q. (g.P.Pool.tiling q ≡ t0) × Sets t0 w (g.P.Pool.user_word q) (w place 1) 0 (w place 0)) (sym x.pool-is) (refl, sets_none t0 w (w place 1) 0 (w place 0) (omega arith))
      | else-newer-eq0 x ↦ let ne = x.if-newer-eq0.false in let e = x.set_link.ensures in
          subst (λ q. (g.P.Pool.tiling q ≡ t0) × Sets t0 w (g.P.Pool.user_word q) (w place 1) 0 (w place 0)) (sym x.pool-is) (
            e.tiling,
            subst (λ (k : ℕ × ℕ). Sets t0 w (g.P.Pool.user_word x.set_link.new.self) k.0 0 k.1) (λ j. (newer_is j, older_is j))
                (sets_by t0 (g.P.Pool.tiling x.set_link.new.self) w (g.P.Pool.user_word x.set_link.new.self) c.link-newer.result 0 c.link-older.result (omega arith) e.tiling e.written e.kept),
          )
    ] in
    let t2 = g.P.Pool.tiling c.if-older-ne0.pool in let v = g.P.Pool.user_word c.if-older-ne0.pool in
    let last = elim c.if-older-ne0.branch as (λ _. (t2 ≡ t1) × Sets t0 u v (w place 0) 1 (w place 1)) [
      | then-older-ne0 x ↦ let ne = x.if-older-ne0.true in let e = x.set_link-then-older-ne0.ensures in
          subst (λ q. (g.P.Pool.tiling q ≡ t1) × Sets t0 u (g.P.Pool.user_word q) (w place 0) 1 (w place 1)) (sym x.pool-is) (
            e.tiling,
            subst (λ (k : ℕ × ℕ). Sets t0 u (g.P.Pool.user_word x.set_link-then-older-ne0.new.self) k.0 1 k.1) (λ j. (older_is j, newer_is j))
                (sets_by t0 (g.P.Pool.tiling x.set_link-then-older-ne0.new.self) u (g.P.Pool.user_word x.set_link-then-older-ne0.new.self) c.link-older.result 1 c.link-newer.result (omega arith)
                (e.tiling ∙ beside.0) e.written e.kept),
          )
      | else-older-ne0 x ↦ let zero_is = x.if-older-ne0.false in
          subst (λ q. (g.P.Pool.tiling q ≡ t1) × Sets t0 u (g.P.Pool.user_word q) (w place 0) 1 (w place 1)) (sym x.pool-is) (refl, sets_none t0 u (w place 0) 1 (w place 1) (omega arith))
    ] in
    let now = c.if-newer-eq0.self in
    let told = elim c.if-newer-eq0.branch as (λ _. (now.left ≡ c.args.self.now.left) × (w place 1 ≡ 0 → now.newest ≡ w place 0) × (w place 1 ≢ 0 → now.newest ≡ c.args.self.now.newest)) [
      | then-newer-eq0 x ↦ let zero_is = x.if-newer-eq0.true in
          (ap (λ (k : Chain). k.left) x.self-is, (λ e. ap (λ (k : Chain). k.newest) x.self-is ∙ older_is), (λ ne. absurd (ne (sym newer_is ∙ zero_is))))
      | else-newer-eq0 x ↦ let some = x.if-newer-eq0.false in
          (ap (λ (k : Chain). k.left) x.self-is, (λ e. absurd (omega arith)), (λ ne. ap (λ (k : Chain). k.newest) x.self-is))
    ] in
    let d : Chain = record { newest = now.newest; left = now.left - 1 } in
    let count = length_followed c.args.self.now.left c.args.self.now.newest w in let some = not_empty place (places w c.args.self.now) c.requires.inside in let as_many = told.0 in
    (detach_done t0 t1 t2 w u v c.args.self.now d place h c.requires.inside beside.0 beside.1 last.0 last.1 (omega arith) told.1 told.2).others

pub returns-clause-words : goal.returns-clause-words
returns-clause-words g c =
    let t0 = g.P.Pool.tiling c.args.pool.now in let w = g.P.Pool.user_word c.args.pool.now in let place = c.args.place.0 in
    let older_is : c.link-older.result ≡ w place 0 = c.link-older.ensures in let newer_is : c.link-newer.result ≡ w place 1 = c.link-newer.ensures in
    let h = c.requires.chain in let first = taken_in t0 (places w c.args.self.now) place h.taken c.requires.inside in let long = first.0 in
    let t1 = g.P.Pool.tiling c.if-newer-eq0.pool in let u = g.P.Pool.user_word c.if-newer-eq0.pool in
    let beside = elim c.if-newer-eq0.branch as (λ _. (t1 ≡ t0) × Sets t0 w u (w place 1) 0 (w place 0)) [
      | then-newer-eq0 x ↦ let zero_is = x.if-newer-eq0.true in
          subst (λ q. (g.P.Pool.tiling q ≡ t0) × Sets t0 w (g.P.Pool.user_word q) (w place 1) 0 (w place 0)) (sym x.pool-is) (refl, sets_none t0 w (w place 1) 0 (w place 0) (omega arith))
      | else-newer-eq0 x ↦ let ne = x.if-newer-eq0.false in let e = x.set_link.ensures in
          subst (λ q. (g.P.Pool.tiling q ≡ t0) × Sets t0 w (g.P.Pool.user_word q) (w place 1) 0 (w place 0)) (sym x.pool-is) (
            e.tiling,
            subst (λ (k : ℕ × ℕ). Sets t0 w (g.P.Pool.user_word x.set_link.new.self) k.0 0 k.1) (λ j. (newer_is j, older_is j))
                (sets_by t0 (g.P.Pool.tiling x.set_link.new.self) w (g.P.Pool.user_word x.set_link.new.self) c.link-newer.result 0 c.link-older.result (omega arith) e.tiling e.written e.kept),
          )
    ] in
    let t2 = g.P.Pool.tiling c.if-older-ne0.pool in let v = g.P.Pool.user_word c.if-older-ne0.pool in
    let last = elim c.if-older-ne0.branch as (λ _. (t2 ≡ t1) × Sets t0 u v (w place 0) 1 (w place 1)) [
      | then-older-ne0 x ↦ let ne = x.if-older-ne0.true in let e = x.set_link-then-older-ne0.ensures in
          subst (λ q. (g.P.Pool.tiling q ≡ t1) × Sets t0 u (g.P.Pool.user_word q) (w place 0) 1 (w place 1)) (sym x.pool-is) (
            e.tiling,
            subst (λ (k : ℕ × ℕ). Sets t0 u (g.P.Pool.user_word x.set_link-then-older-ne0.new.self) k.0 1 k.1) (λ j. (older_is j, newer_is j))
                (sets_by t0 (g.P.Pool.tiling x.set_link-then-older-ne0.new.self) u (g.P.Pool.user_word x.set_link-then-older-ne0.new.self) c.link-older.result 1 c.link-newer.result (omega arith)
                (e.tiling ∙ beside.0) e.written e.kept),
          )
      | else-older-ne0 x ↦ let zero_is = x.if-older-ne0.false in
          subst (λ q. (g.P.Pool.tiling q ≡ t1) × Sets t0 u (g.P.Pool.user_word q) (w place 0) 1 (w place 1)) (sym x.pool-is) (refl, sets_none t0 u (w place 0) 1 (w place 1) (omega arith))
    ] in
    let now = c.if-newer-eq0.self in
    let told = elim c.if-newer-eq0.branch as (λ _. (now.left ≡ c.args.self.now.left) × (w place 1 ≡ 0 → now.newest ≡ w place 0) × (w place 1 ≢ 0 → now.newest ≡ c.args.self.now.newest)) [
      | then-newer-eq0 x ↦ let zero_is = x.if-newer-eq0.true in
          (ap (λ (k : Chain). k.left) x.self-is, (λ e. ap (λ (k : Chain). k.newest) x.self-is ∙ older_is), (λ ne. absurd (ne (sym newer_is ∙ zero_is))))
      | else-newer-eq0 x ↦ let some = x.if-newer-eq0.false in
          (ap (λ (k : Chain). k.left) x.self-is, (λ e. absurd (omega arith)), (λ ne. ap (λ (k : Chain). k.newest) x.self-is))
    ] in
    let d : Chain = record { newest = now.newest; left = now.left - 1 } in
    let count = length_followed c.args.self.now.left c.args.self.now.newest w in let some = not_empty place (places w c.args.self.now) c.requires.inside in let as_many = told.0 in
    (detach_done t0 t1 t2 w u v c.args.self.now d place h c.requires.inside beside.0 beside.1 last.0 last.1 (omega arith) told.1 told.2).words
