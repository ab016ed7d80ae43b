mod SideLemmas
