-- Buckets rise with pages, so the extents of a page are between the beginning of its bucket and that of the next.
use Rattle.id_index.proofs.Words.{IsBeginning, arith, get_or_read, shr_mono, subst, ℕ, ◌%◌, ◌+◌, ◌-◌, ◌/◌, ◌^◌, ◌≡◌}
use Rattle.id_index.proofs.Words.{◌≤◌}
use Rattle.id_index.proofs.Buckets.{around_bucket}
use Rattle.id_index.proofs.beginnings.Beginnings.around.Goals as goal

pub returns : goal.returns
returns g c =
    let extents = c.args.extents.now in
    let starts = c.args.self.now.starts.items in
    let least = c.args.self.now.least in
    let shift = c.args.self.now.shift in
    let distance = (c.args.page + (2 ^ 64 - least)) % 2 ^ 64 in
    let plain : distance ≡ c.args.page - least = omega (arith, c.requires.begun.fits) in
    let up : distance / 2 ^ shift ≤ c.args.self.now.span / 2 ^ shift = shr_mono shift (omega arith) in
    let begins = λ (at : ℕ) (bucket : ℕ). IsBeginning extents least shift bucket at in
    let here : begins c.index.result.now (distance / 2 ^ shift) =
    rw (get_or_read starts (distance / 2 ^ shift) c.index.result.now (omega (arith, up, c.requires.begun.count))
    c.index.ensures 0) (c.requires.begun.each (distance / 2 ^ shift) (omega (arith, up, c.requires.begun.count))) in
    let next : begins c.index-2.result.now (distance / 2 ^ shift + 1) =
    rw (get_or_read starts (distance / 2 ^ shift + 1) c.index-2.result.now
    (omega (arith, up, c.requires.begun.count)) c.index-2.ensures 0)
    (c.requires.begun.each (distance / 2 ^ shift + 1) (omega (arith, up, c.requires.begun.count))) in
    around_bucket extents least shift c.args.page c.index.result.now c.index-2.result.now
    (subst (λ (d : ℕ). begins c.index.result.now (d / 2 ^ shift)) plain here)
    (subst (λ (d : ℕ). begins c.index-2.result.now (d / 2 ^ shift + 1)) plain next)
