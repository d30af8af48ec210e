use Rattle.tree.proofs.+worst_under.Given as goal

abbrev pub decreases-worst_under : goal.decreases-worst_under
decreases-worst_under l = l.height
