-- How clauses read the pool's buffers.
use Rattle.buffer_pool.specs.declared.buffer.Buffer.{Buffer}
use Rattle.buffer_pool.specs.working.Slots.{Reading}

abbrev pub buffer_reading : {A : Type 0} → Reading (Buffer A)
buffer_reading = record { items = λ b. b.items.items; size = λ b. b.size }
