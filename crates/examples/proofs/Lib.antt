mod CallerLemmas
