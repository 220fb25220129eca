use Rattle.jv_link_cache.proofs.places.linked_count.Given as goal

abbrev pub decreases-loop-count : goal.decreases-loop-count
decreases-loop-count l = l.count
