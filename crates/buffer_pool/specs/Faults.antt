-- Why no pool is made.
use Rattle.buffer_pool.specs.declared.pool.limits.PoolFault.{PoolFault}
use Rattle.buffer_pool.specs.declared.pool.limits.PoolFault.TheVariants.{BadOptions, OutOfMemory}

-- the options are refused only if they are out of their ranges, and memory runs out only if they are inside
abbrev pub Refuses : Type 0 → PoolFault → Type 0
Refuses inside BadOptions = inside → ⊥
Refuses inside OutOfMemory = inside
